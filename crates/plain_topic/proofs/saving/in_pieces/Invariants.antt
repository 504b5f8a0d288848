use Rattle.std.proofs.Common.{◌≡◌, take}
use Rattle.log_pieces.specs.Pieces.{joined}
use Rattle.plain_topic.proofs.saving.in_pieces.Given as goal

abbrev pub invariant-loop-message : goal.invariant-loop-message
invariant-loop-message l = joined l.pieces ≡ take l.message-index l.log
