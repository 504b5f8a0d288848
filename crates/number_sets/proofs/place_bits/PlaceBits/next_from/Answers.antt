use Rattle.number_sets.proofs.Sets.{next_place, no_place}
use Rattle.number_sets.proofs.place_bits.PlaceBits.next_from.Goals as goal

pub returns-clause-some : goal.returns-clause-some
returns-clause-some c = rw (← c.self.view_is) (next_place c.self.inside.tree.words.items c.args.from _ c.next_from.ensures.some)

pub returns-clause-none : goal.returns-clause-none
returns-clause-none c = rw (← c.self.view_is) (no_place c.self.inside.tree.words.items c.args.from _ c.next_from.ensures.none)
