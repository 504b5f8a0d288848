use Rattle.topic_lives.proofs.TwoLives.{may_be_sent}
use Rattle.topic_lives.proofs.laws.acknowledged_stays_example.Goals as goal

pub returns : goal.returns
returns c = may_be_sent
