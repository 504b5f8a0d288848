use Rattle.log_pieces.specs.Pieces.{loosely}
use Rattle.log_pieces.proofs.Moments.{AreEarlier}
use Rattle.log_pieces.proofs.loose.Loose.count_earlier.Given as goal

abbrev pub invariant-loop-place : goal.invariant-loop-place
invariant-loop-place l = AreEarlier l.time (loosely l.self) l.from l.place
