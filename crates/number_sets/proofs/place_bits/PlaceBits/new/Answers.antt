use Rattle.number_sets.proofs.Sets.{placed, set_of_none}
use Rattle.number_sets.proofs.place_bits.PlaceBits.new.Goals as goal

pub returns : goal.returns
returns c = placed _ _ _ _ (set_of_none c.new.result.words.items c.new.ensures.none) c.new.ensures.room
