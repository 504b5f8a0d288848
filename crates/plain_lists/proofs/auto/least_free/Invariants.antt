use Rattle.std.proofs.Common.{vec_len}
use Rattle.plain_lists.proofs.Free.{Searched}
use Rattle.plain_lists.proofs.auto.least_free.Given as goal

abbrev pub invariant-loop-names : goal.invariant-loop-names
invariant-loop-names l = Searched l.initial.names.items l.names.items l.number

abbrev pub decreases-loop-names : goal.decreases-loop-names
decreases-loop-names l = vec_len l.names
