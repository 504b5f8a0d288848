use Rattle.plain_queries.proofs.Hashes.{NoneSoFar}
use Rattle.plain_queries.proofs.keyed.next_of_any_hash.Given as goal

abbrev pub invariant-loop-message : goal.invariant-loop-message
invariant-loop-message l = NoneSoFar l.log l.visible l.members l.subscription l.message-index
