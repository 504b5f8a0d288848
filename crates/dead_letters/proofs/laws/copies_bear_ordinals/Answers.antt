use Rattle.dead_letters.proofs.CourierNames.{copies_bear_ordinals}
use Rattle.dead_letters.proofs.laws.copies_bear_ordinals.Goals as goal

pub returns : goal.returns
returns c = copies_bear_ordinals
