use Rattle.std.proofs.Common.{◌∙◌}
use Rattle.std.proofs.lemmas.List.{with_items_is}
use Rattle.number_sets.proofs.Lowered.{leaves_not_below, top_not_below, numbers_lowered, room_lowered, tied_lowered}
use Rattle.number_sets.proofs.hash_firsts.HashFirsts.lower.Goals as goal

pub lower-requires : goal.lower-requires
lower-requires c = leaves_not_below c.self.inside.chunks.items c.self.inside.top c.args.by c.args.self.now c.self.view_is c.self.invariant c.requires _ c.deref_mut.ensures.value

pub lower-requires-2 : goal.lower-requires-2
lower-requires-2 c = top_not_below c.self.inside.chunks.items c.self.inside.top c.args.by c.args.self.now c.self.view_is c.self.invariant c.requires

pub invariant_of-self : goal.invariant_of-self
invariant_of-self c =
    tied_lowered c.self.inside.chunks.items _ c.lower.new.chunks _ c.args.by c.deref_mut.ensures.value
    (with_items_is c.self.inside.chunks c.lower.new.chunks (c.lower.auto.chunks ∙ c.deref_mut.ensures.len))
    c.lower.ensures.leaves c.self.inside.top _ c.lower.auto.chunks c.lower-2.ensures.leaves c.lower-2.ensures.room c.self.invariant

pub returns-clause-numbers : goal.returns-clause-numbers
returns-clause-numbers c =
    numbers_lowered c.self.inside.chunks.items _ c.lower.new.chunks _ c.args.by c.deref_mut.ensures.value
    (with_items_is c.self.inside.chunks c.lower.new.chunks (c.lower.auto.chunks ∙ c.deref_mut.ensures.len))
    c.lower.ensures.leaves c.args.self.now c.self.view_is

pub returns-clause-room : goal.returns-clause-room
returns-clause-room c =
    room_lowered c.self.inside.chunks.items _ c.lower.new.chunks _ c.args.by c.deref_mut.ensures.value
    (with_items_is c.self.inside.chunks c.lower.new.chunks (c.lower.auto.chunks ∙ c.deref_mut.ensures.len))
    c.lower.ensures.leaves c.args.self.now c.self.view_is c.lower.ensures.room
