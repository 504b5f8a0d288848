use Rattle.number_sets.proofs.Views.{then_ok, then_err, grown_numbers, not_grown, room_kept, has_grown}
use Rattle.number_sets.proofs.hash_firsts.HashFirsts.grow.Goals as goal

pub returns-clause-ok : goal.returns-clause-ok
returns-clause-ok c = then_ok c.grow-2.result (has_grown c.grow-2.new.chunks.items c.args.hash _ c.chunk_of-chunk.ensures) c.grow-2.ensures.ok

pub returns-clause-kept : goal.returns-clause-kept
returns-clause-kept c = rw (← c.self.view_is) (room_kept c.self.inside.chunks.items c.grow-2.new.chunks.items c.grow-2.ensures.kept)

pub returns-clause-same : goal.returns-clause-same
returns-clause-same c = rw (← c.self.view_is) (grown_numbers c.self.inside.chunks.items c.grow-2.new.chunks.items c.grow-2.ensures.leaves)

pub returns-clause-err : goal.returns-clause-err
returns-clause-err c =
    rw (← c.self.view_is) (then_err c.grow-2.result (not_grown c.self.inside.chunks.items c.grow-2.new.chunks.items c.grow-2.ensures.leaves) c.grow-2.ensures.err)
