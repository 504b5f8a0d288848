use Rattle.std.proofs.Common.{◌≡◌, take}
use Rattle.dead_core.proofs.dead_queue.queue_of.Given as goal

-- what was copied so far
abbrev pub invariant-loop-letter : goal.invariant-loop-letter
invariant-loop-letter l = l.queue.items ≡ take l.letter-index l.letters
