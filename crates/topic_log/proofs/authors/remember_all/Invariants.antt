use Rattle.std.proofs.Common.{◌≡◌, take}
use Rattle.delivery_machine.specs.Trimming.{with_authors}
use Rattle.topic_log.proofs.authors.remember_all.Given as goal

abbrev pub invariant-loop-index : goal.invariant-loop-index
invariant-loop-index l = l.authors.items ≡ with_authors l.gone (take l.index l.entries.log) l.initial.authors.items
