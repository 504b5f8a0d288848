use Rattle.number_sets.proofs.Views.{new_firsts}
use Rattle.number_sets.proofs.hash_firsts.HashFirsts.new.Goals as goal

pub returns : goal.returns
returns c = new_firsts _ c.new.ensures.items
