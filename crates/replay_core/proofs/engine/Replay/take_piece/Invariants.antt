use Rattle.std.proofs.Common.{◌≡◌, ◌≤◌, ◌+◌, ◌++◌, length, List, ℕ}
use Rattle.std.specs.Prelude.{Ok}
use Rattle.replay_core.specs.Progress.{Takes, moment}
use Rattle.replay_core.proofs.engine.Replay.take_piece.Given as goal

abbrev pub invariant-loop-part : goal.invariant-loop-part
invariant-loop-part g l = (done : List ℕ) × (l.piece ≡ done ++ l.rest) × (l.self.lines ≤ l.initial.self.lines + length done)
    × Takes done (moment l.initial.self (g.W.Write.contents l.initial.writer) l.initial.topic) (Ok tt) (moment l.self (g.W.Write.contents l.writer) l.topic)

abbrev pub decreases-loop-part : goal.decreases-loop-part
decreases-loop-part g l = length l.rest
