use Rattle.std.proofs.Common.{inr, IsTrue, refl, subst, sym}
use Rattle.row_store.proofs.planning.plan_anew.Goals as goal

pub returns-in-Ok-clause-forward : goal.returns-in-Ok-clause-forward
returns-in-Ok-clause-forward g c = inr (c.may_begin.ensures (subst IsTrue (sym c.if-not-may_begin.false) refl))
