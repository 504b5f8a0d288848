use Rattle.topic_lives.proofs.MadeAgain.{made_again_reached, made_again_numbers}
use Rattle.topic_lives.proofs.laws.deletions_keep_numbers.Goals as goal

pub returns : goal.returns
returns c s at deletable = (made_again_reached s at deletable, made_again_numbers s at)
