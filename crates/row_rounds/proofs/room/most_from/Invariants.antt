use Rattle.std.proofs.Common.{◌≤◌, ◌-◌, drop, take}
use Rattle.log_pieces.specs.Pieces.{joined}
use Rattle.row_rounds.specs.Rounds.{HasRoom}
use Rattle.row_rounds.proofs.room.most_from.Given as goal

abbrev pub invariant-loop-place : goal.invariant-loop-place
invariant-loop-place l = record { after : l.from ≤ l.place; room : HasRoom l.most (take (l.place - l.from) (drop l.from (joined l.log))) }
