use Rattle.std.proofs.Common.{ap}
use Rattle.std.specs.declared.result.Result.TheVariants.{Err}
use Rattle.replay_core.specs.declared.stop.Stop.{Stop}
use Rattle.replay_core.proofs.Endings.{no_replay, Replayed-as}
use Rattle.replay_core.proofs.plain.replay_named.Goals as goal

pub returns-in-Ok : goal.returns-in-Ok
returns-in-Ok g c = rw c.in-Ok.ensures.ok at c.replay_begun.ensures

pub returns-in-Err : goal.returns-in-Err
returns-in-Err g c = (_, Replayed-as _ _ _ _ (Err c.in-Err.stop) (ap (λ (s : Stop). Err s) c.in-Err.ensures.err) (no_replay _ _))
