use Rattle.replay_core.proofs.Endings.{same_parts}
use Rattle.replay_core.proofs.plain.begin.Goals as goal

pub returns-in-Ok-clause-ok : goal.returns-in-Ok-clause-ok
returns-in-Ok-clause-ok g c =
    let copy = c.in-Ok.ensures.cases in
    let same = same_parts c.in-Ok.copy c.args.name.now (copy.0, copy.1.0, copy.1.1) in
    rw same at c.fresh_topic.ensures.ok
