use Rattle.topic_lives.proofs.Acknowledged.{never_sent}
use Rattle.topic_lives.proofs.laws.acknowledged_stays.Goals as goal

pub returns : goal.returns
returns c s deeds t at lives name position there unreset = never_sent name position s deeds t at lives there unreset
