use Rattle.dead_letters.proofs.DeadLetters.{ordinals_rise}
use Rattle.dead_letters.proofs.laws.ordinals_rise.Goals as goal

pub returns : goal.returns
returns c = ordinals_rise
