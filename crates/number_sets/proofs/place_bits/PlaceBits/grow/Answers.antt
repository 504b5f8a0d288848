use Rattle.number_sets.proofs.Sets.{placed, same_bits, not_grown}
use Rattle.number_sets.proofs.place_bits.PlaceBits.grow.Goals as goal

pub returns-clause-same : goal.returns-clause-same
returns-clause-same c = rw (← c.self.view_is) (same_bits c.self.inside.tree.words.items c.grow.new.self.words.items c.grow.ensures.same)

pub returns-clause-err : goal.returns-clause-err
returns-clause-err c =
    rw (← c.self.view_is) (not_grown c.grow.result (placed _ _ _ _ (same_bits c.self.inside.tree.words.items c.grow.new.self.words.items c.grow.ensures.same)) c.grow.ensures.err)
