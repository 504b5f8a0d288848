use Rattle.std.proofs.Common.{◌≤◌, ◌*◌, List, ℕ}
use Rattle.std.specs.Io.KnownBytes.{Consumes}
use Rattle.replay_core.specs.Progress.{Progress, moment}
use Rattle.replay_core.proofs.engine.Replay.run.Given as goal

abbrev pub invariant-loop-turn : goal.invariant-loop-turn
invariant-loop-turn g l = (read : List ℕ) × (l.self.lines ≤ 65536 * l.turn)
    × Consumes (g.R.Read.remaining l.initial.reader) (g.R.Read.remaining l.reader) read
    × Progress (record { name = l.initial.self.name; written = g.W.Write.contents l.initial.writer; topic = l.initial.topic }) read (moment l.self (g.W.Write.contents l.writer) l.topic)
