use Rattle.std.proofs.Common.{◌∙◌}
use Rattle.std.proofs.lemmas.List.{take_rest}
use Rattle.socket_conn.proofs.FramesLemmas.{goes_on}
use Rattle.socket_conn.proofs.frames.FrameCount.walk.Goals as goal

pub loop-rest-preserved : goal.loop-rest-preserved
loop-rest-preserved c =
    rw (take_rest, c.pass-count.ensures.passed)
    (goes_on c.loop-rest.self c.pass-count.result c.loop-rest.rest.now ∙ c.loop-rest.invariant)
