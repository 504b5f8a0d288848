use Rattle.std.proofs.Common.{◌∙◌, refl}
use Rattle.std.proofs.lemmas.List.{with_items_is}
use Rattle.number_sets.proofs.Views.{chunk_has_room, top_has_room}
use Rattle.number_sets.proofs.Changes.{view_set, tied_set}
use Rattle.number_sets.proofs.hash_firsts.HashFirsts.set.Goals as goal

pub set_in-requires-clause-room : goal.set_in-requires-clause-room
set_in-requires-clause-room c = chunk_has_room c.self.inside.chunks.items _ c.args.self.now c.args.hash _ c.self.view_is c.deref_mut.ensures.value c.chunk_of-chunk.ensures c.requires.room

pub set-requires-clause-room : goal.set-requires-clause-room
set-requires-clause-room c =
    top_has_room c.self.inside.chunks.items c.self.inside.top _ c.self.invariant
    (chunk_has_room c.self.inside.chunks.items c.self.inside.chunks.items c.args.self.now c.args.hash _ c.self.view_is refl c.chunk_of-chunk.ensures c.requires.room)

pub invariant_of-self : goal.invariant_of-self
invariant_of-self c =
    let is = c.set_in.ensures in
    tied_set c.self.inside.chunks.items _ c.set_in.new.chunks _ c.args.hash _ _ c.args.node c.deref_mut.ensures.value
    (with_items_is c.self.inside.chunks c.set_in.new.chunks (c.set_in.auto.chunks ∙ c.deref_mut.ensures.len))
    c.chunk_of-chunk.ensures c.place_in_chunk.ensures is.here is.leaves is.others
    _ c.self.inside.top _ _ c.deref.ensures.value c.set_in.auto.chunks c.requires.hash c.least_in-least.ensures c.set.ensures.leaves c.set.ensures.room c.self.invariant

pub returns : goal.returns
returns c =
    let is = c.set_in.ensures in
    rw (← c.self.view_is)
    (view_set c.self.inside.chunks.items _ c.set_in.new.chunks _ c.args.hash _ _ c.args.node c.deref_mut.ensures.value
    (with_items_is c.self.inside.chunks c.set_in.new.chunks (c.set_in.auto.chunks ∙ c.deref_mut.ensures.len))
    c.chunk_of-chunk.ensures c.place_in_chunk.ensures is.here is.leaves is.others is.room)
