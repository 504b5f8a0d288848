use Rattle.dead_letters.proofs.Result.{moved_once}
use Rattle.dead_letters.proofs.laws.moved_once.Goals as goal

pub returns : goal.returns
returns c = moved_once
