use Rattle.broker_dir.proofs.Weighed.{refused_still}
use Rattle.broker_dir.proofs.inside.Inside.answer_within.Goals as goal

pub returns-in-Ok-clause-stage : goal.returns-in-Ok-clause-stage
returns-in-Ok-clause-stage g c =
    refused_still c.args.self.now.stage c.weigh.new.self.stage c.args.event c.answer-answer.result c.args.self.now c.weigh.new.self c.answer-answer.new.self c.note_weight.new.self c.weigh.ensures.others.0 (λ shut. (c.weigh.ensures.shut shut).1) c.answer-answer.ensures.stage c.note_weight.ensures.refused
