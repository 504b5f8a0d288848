use Rattle.topic_lives.proofs.CourierLeft.{may_be_left}
use Rattle.topic_lives.proofs.laws.deletions_keep_numbers_example.Goals as goal

pub returns : goal.returns
returns c = may_be_left
