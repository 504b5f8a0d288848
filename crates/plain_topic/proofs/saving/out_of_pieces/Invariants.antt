use Rattle.std.proofs.Common.{◌≡◌, take}
use Rattle.log_pieces.specs.Pieces.{joined}
use Rattle.plain_topic.proofs.saving.out_of_pieces.Given as goal

abbrev pub invariant-each : goal.invariant-each
invariant-each l = l.log.items ≡ take l.i (joined l.pieces)
