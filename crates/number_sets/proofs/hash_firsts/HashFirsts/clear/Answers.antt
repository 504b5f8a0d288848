use Rattle.std.proofs.Common.{◌∙◌}
use Rattle.std.proofs.lemmas.List.{with_items_is}
use Rattle.number_sets.proofs.Views.{cleared}
use Rattle.number_sets.proofs.hash_firsts.HashFirsts.clear.Goals as goal

pub returns : goal.returns
returns c =
    rw (← c.self.view_is)
    (cleared c.self.inside.chunks.items _ c.clear.new.chunks _ c.deref_mut.ensures.value
    (with_items_is c.self.inside.chunks c.clear.new.chunks (c.clear.auto.chunks ∙ c.deref_mut.ensures.len))
    c.clear.ensures.leaves c.clear.ensures.room)
