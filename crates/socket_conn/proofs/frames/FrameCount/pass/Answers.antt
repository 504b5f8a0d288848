use Rattle.socket_conn.proofs.FramesLemmas.{passes}
use Rattle.std.proofs.Common.{arith}
use Rattle.socket_conn.proofs.frames.FrameCount.pass.Goals as goal

pub returns-in-Payload-clause-passed : goal.returns-in-Payload-clause-passed
returns-in-Payload-clause-passed c =
    passes c.args.self.now c.in-Payload.left c.min-count.result c.args.bytes.now c.in-Payload.is (omega arith) (omega arith)
