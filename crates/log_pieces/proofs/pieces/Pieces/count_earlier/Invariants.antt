use Rattle.log_pieces.specs.Pieces.{loosely}
use Rattle.log_pieces.proofs.Moments.{EarlierUpTo}
use Rattle.log_pieces.proofs.pieces.Pieces.count_earlier.Given as goal

abbrev pub invariant-loop-place : goal.invariant-loop-place
invariant-loop-place l = EarlierUpTo l.time l.self.skipped l.self.sealed (loosely l.self.loose) l.place l.count
