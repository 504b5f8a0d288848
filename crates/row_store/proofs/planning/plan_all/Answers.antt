use Rattle.std.proofs.Common.{IsTrue, refl, subst, sym}
use Rattle.row_rounds.specs.Rounds.{AreApart}
use Rattle.row_store.proofs.planning.plan_all.Goals as goal

pub returns-clause-apart : goal.returns-clause-apart
returns-clause-apart g c = subst AreApart c.deref.ensures.value (c.are_apart.ensures (subst IsTrue (sym c.if-not-are_apart.false) refl))
