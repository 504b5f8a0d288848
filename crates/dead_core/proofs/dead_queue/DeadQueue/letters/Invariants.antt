use Rattle.std.proofs.Common.{◌≡◌, take}
use Rattle.dead_core.proofs.dead_queue.DeadQueue.letters.Given as goal

-- what was copied so far
abbrev pub invariant-each : goal.invariant-each
invariant-each l = l.letters.items ≡ take l.i l.self.dead
