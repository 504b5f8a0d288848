use Rattle.number_sets.proofs.Sets.{placed, removed}
use Rattle.number_sets.proofs.place_bits.PlaceBits.remove.Goals as goal

pub returns : goal.returns
returns c =
    rw (← c.self.view_is) (placed _ _ _ _ (removed c.self.inside.tree.words.items c.remove.new.self.words.items c.args.place c.remove.ensures.has) c.remove.ensures.room)
