use Rattle.number_sets.proofs.Sets.{placed, inserted}
use Rattle.number_sets.proofs.place_bits.PlaceBits.insert.Goals as goal

pub returns : goal.returns
returns c =
    rw (← c.self.view_is) (placed _ _ _ _ (inserted c.self.inside.tree.words.items c.insert.new.self.words.items c.args.place c.insert.ensures.has) c.insert.ensures.room)
