use Rattle.std.proofs.Common.{refl}
use Rattle.replay_core.proofs.engine.Replay.answer_line.Goals as goal

pub returns-in-Err-BadLine-clause-why : goal.returns-in-Err-BadLine-clause-why
returns-in-Err-BadLine-clause-why g c =
    let bad = rw c.in-Err-BadLine.field-0-is at c.in-Err-BadLine.ensures.bad in
    let kept = rw c.in-Err-BadLine.field-0-is at c.in-Err-BadLine.ensures.kept in
    (bad refl, refl, kept refl)
