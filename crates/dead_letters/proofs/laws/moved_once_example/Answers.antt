use Rattle.dead_letters.proofs.Example.{may_be_moved}
use Rattle.dead_letters.proofs.laws.moved_once_example.Goals as goal

pub returns : goal.returns
returns c = may_be_moved
