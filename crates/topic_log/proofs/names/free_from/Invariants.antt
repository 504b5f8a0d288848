use Rattle.std.proofs.Common.{◌≡◌, ◌≤◌, ◌<◌, ℕ, true}
use Rattle.topic_log.specs.Names.{AreGaps, is_numbered, is_taken}
use Rattle.topic_log.proofs.names.free_from.Given as goal

abbrev pub invariant-loop-number : goal.invariant-loop-number
invariant-loop-number l =
    (AreGaps (is_numbered l.sequences) l.first l.initial.gaps.items → AreGaps (is_numbered l.sequences) l.number l.gaps.items)
    × ((k : ℕ) → l.first ≤ k → k < l.number → is_taken l.producers l.sequences k ≡ true)
