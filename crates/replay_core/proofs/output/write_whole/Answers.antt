use Rattle.std.proofs.Common.{refl}
use Rattle.replay_core.proofs.Written.{LeavesOf-more}
use Rattle.replay_core.proofs.output.write_whole.Goals as goal

pub loop-rest-preserved : goal.loop-rest-preserved
loop-rest-preserved g c = LeavesOf-more _ _ _ c.args.text.now c.loop-rest.rest.now c.in-Ok.taken _ c.loop-rest.invariant c.in-Ok.ensures.bytes refl
