use Rattle.std.proofs.Common.{inr}
use Rattle.broker_dir.proofs.attached.Attached.ask.Goals as goal

pub returns : goal.returns
returns g c = record {
  asks = inr (record {
    old = c.deref_mut.result.now;
    new = c.answer_within-answer.new.self;
    name = c.answer_within-answer.ensures.name;
    hands_on = c.answer_within-answer.ensures.hands_on;
  });
}
