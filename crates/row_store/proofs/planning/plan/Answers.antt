use Rattle.std.proofs.Common.{inl, subst, sym}
use Rattle.delivery_machine.specs.Places.{KeptTopic}
use Rattle.row_forms.specs.Standing.{Stands}
use Rattle.row_store.proofs.planning.plan.Goals as goal

pub returns-in-Ok-clause-fits : goal.returns-in-Ok-clause-fits
returns-in-Ok-clause-fits g c = λ db all. c.in-Ok.ensures.fits db (subst (λ (kept : KeptTopic). Stands kept db) (sym c.snapshot.ensures) (c.in-Some.ensures.known db all))

pub returns-in-Ok-clause-forward : goal.returns-in-Ok-clause-forward
returns-in-Ok-clause-forward g c = inl (c.in-Some.base.now, c.in-Some.ensures.base.0, c.in-Some.ensures.base.1, c.in-Some.ensures.goes_on)
