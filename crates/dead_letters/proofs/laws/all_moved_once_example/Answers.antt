use Rattle.dead_letters.proofs.TogetherExample.{all_may_be_moved}
use Rattle.dead_letters.proofs.laws.all_moved_once_example.Goals as goal

pub returns : goal.returns
returns c = all_may_be_moved
