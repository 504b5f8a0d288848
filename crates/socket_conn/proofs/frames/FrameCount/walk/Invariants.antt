use Rattle.std.proofs.Common.{◌≡◌, length}
use Rattle.socket_conn.specs.Frames.{walked}
use Rattle.socket_conn.proofs.frames.FrameCount.walk.Given as goal

abbrev pub invariant-loop-rest : goal.invariant-loop-rest
invariant-loop-rest l = walked l.self l.rest ≡ walked l.fn.self l.fn.bytes

abbrev pub decreases-loop-rest : goal.decreases-loop-rest
decreases-loop-rest l = length l.rest
