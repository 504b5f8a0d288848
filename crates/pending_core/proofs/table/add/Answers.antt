use Rattle.std.proofs.Common.{refl}
use Rattle.pending_core.proofs.Found.{held_added, count_added}
use Rattle.pending_core.proofs.Tied.{tied_added}
use Rattle.pending_core.proofs.table.add.Goals as goal

pub returns-in-Ok-clause-tied : goal.returns-in-Ok-clause-tied
returns-in-Ok-clause-tied c =
    rw (c.in_ok-push.ensures.ok, c.slot_of.ensures)
    (tied_added c.args.table.now.entries _ c.args.slots.now c.args.position _ c.requires.tied c.requires.absent c.len.ensures c.requires.within c.in-Ok.ensures.updates.0)

pub returns-in-Ok-clause-held : goal.returns-in-Ok-clause-held
returns-in-Ok-clause-held c = held_added c.args.table.now.entries _ c.args.position _ c.in-Ok.ensures.updates.0 c.args.held refl

pub returns-in-Ok-clause-counts : goal.returns-in-Ok-clause-counts
returns-in-Ok-clause-counts c = count_added c.args.table.now.entries _ c.args.position _ c.in-Ok.ensures.updates.0 c.args.count refl
