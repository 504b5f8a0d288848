use Rattle.std.proofs.Common.{◌≡◌, ◌<◌, ℕ, get_or, true}
use Rattle.topic_log.specs.Names.{is_taken}
use Rattle.topic_log.proofs.names.free_gap.Given as goal

abbrev pub invariant-loop-gap : goal.invariant-loop-gap
invariant-loop-gap l = (k : ℕ) → k < l.gap-index → is_taken l.producers l.sequences (get_or l.gaps k 0) ≡ true
