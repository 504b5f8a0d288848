use Rattle.dead_letters.proofs.Together.{all_moved_once}
use Rattle.dead_letters.proofs.laws.all_moved_once.Goals as goal

pub returns : goal.returns
returns c = all_moved_once
