use Rattle.number_sets.proofs.Views.{node_found, room_found}
use Rattle.number_sets.proofs.hash_firsts.HashFirsts.node_of.Goals as goal

pub returns-clause-number : goal.returns-clause-number
returns-clause-number c = rw (← c.self.view_is) (node_found c.self.inside.chunks.items _ _ _ _ _ c.deref.ensures.value c.chunk_of-chunk.ensures c.place_in_chunk.ensures c.leaf_in.ensures)

pub returns-clause-room : goal.returns-clause-room
returns-clause-room c = rw (← c.self.view_is) (room_found c.self.inside.chunks.items _ _ _ _ _ c.deref.ensures.value c.chunk_of-chunk.ensures c.leaf_in.ensures)
