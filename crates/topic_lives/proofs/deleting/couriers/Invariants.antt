use Rattle.std.proofs.Common.{◌≡◌}
use Rattle.log_pieces.specs.Pieces.{joined}
use Rattle.topic_lives.proofs.Couriers.{couriers_of}
use Rattle.topic_lives.proofs.deleting.couriers.Given as goal

abbrev pub invariant-loop-index : goal.invariant-loop-index
invariant-loop-index l = l.couriers.items ≡ couriers_of l.index l.gone (joined l.log) l.authors
