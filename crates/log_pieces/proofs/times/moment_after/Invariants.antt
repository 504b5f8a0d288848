use Rattle.std.proofs.Common.{◌≡◌, take}
use Rattle.log_pieces.specs.Times.{moment_after}
use Rattle.log_pieces.proofs.times.moment_after.Given as goal

abbrev pub invariant-loop-message : goal.invariant-loop-message
invariant-loop-message l = l.moment ≡ moment_after 0 (take l.message-index l.messages)
