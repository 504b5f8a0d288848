use Rattle.std.proofs.Common.{ap, sym, subst, ◌∙◌}
use Rattle.pending_core.specs.Pending.{without}
use Rattle.pending_core.specs.Kept.{pending_in, MayCount}
use Rattle.pending_core.proofs.Empty.{none_without}
use Rattle.pending_core.proofs.Machine.{acknowledged_one, dead_one}
use Rattle.pending_core.proofs.pending_map.PendingMap.remove.Goals as goal

pub invariant_of-self : goal.invariant_of-self
invariant_of-self c = (
  c.remove.ensures.tied,
  c.remove.ensures.seated,
  subst (MayCount _) (sym c.remove.ensures.seen) (none_without _ (pending_in c.self.inside.kept.entries) c.args.position c.self.invariant.2),
)

pub returns-clause-acknowledged : goal.returns-clause-acknowledged
returns-clause-acknowledged c sub agrees =
    acknowledged_one c.args.self.now _ c.args.position (c.remove.ensures.seen ∙ ap (without c.args.position) c.self.view_is) sub agrees

pub returns-clause-died : goal.returns-clause-died
returns-clause-died c letter sub at agrees =
    dead_one c.args.self.now _ c.args.position (c.remove.ensures.seen ∙ ap (without c.args.position) c.self.view_is) letter sub at agrees
