use Rattle.broker_dir.proofs.Answered.{made}
use Rattle.broker_dir.proofs.attached.Attached.create.Goals as goal

pub returns : goal.returns
returns g c = record {
  makes = record {
    old = c.deref_mut.result.now;
    new = c.create-answer.new.self;
    makes = made _ _ _ _ c.create-answer.ensures.refused c.create-answer.ensures.creates;
  };
}
