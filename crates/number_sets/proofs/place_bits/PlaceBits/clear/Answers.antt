use Rattle.number_sets.proofs.Sets.{placed, set_of_none}
use Rattle.number_sets.proofs.place_bits.PlaceBits.clear.Goals as goal

pub returns : goal.returns
returns c = placed _ _ _ _ (set_of_none c.clear.new.self.words.items c.clear.ensures.none) c.clear.ensures.room
