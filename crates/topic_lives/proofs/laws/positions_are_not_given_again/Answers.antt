use Rattle.topic_lives.proofs.Past.{same_message}
use Rattle.topic_lives.proofs.laws.positions_are_not_given_again.Goals as goal

pub returns : goal.returns
returns c s deeds t at lives e f there here is = same_message e s deeds t at lives f there here is
