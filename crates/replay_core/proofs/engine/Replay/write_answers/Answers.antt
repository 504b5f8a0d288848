use Rattle.std.proofs.Common.{refl}
use Rattle.replay_core.specs.Progress.{moment}
use Rattle.replay_core.proofs.Taking.{answers_written}
use Rattle.replay_core.proofs.engine.Replay.write_answers.Goals as goal

pub returns-clause-takes : goal.returns-clause-takes
returns-clause-takes g c = λ t s input p.
    answers_written s input (moment c.args.self.now (g.W.Write.contents c.args.writer.now) t) _ _ c.write_to.result p c.write_to.ensures.ok c.write_to.ensures.err c.write_to.ensures.front refl refl refl c.write_to.ensures.left
