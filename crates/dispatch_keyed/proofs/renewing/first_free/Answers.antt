use Rattle.std.proofs.Common.{sym}
use Rattle.dispatch_keyed.proofs.Firsts.{rowless}
use Rattle.dispatch_keyed.proofs.renewing.first_free.Goals as goal

pub returns-in-Some-owner-clause-first : goal.returns-in-Some-owner-clause-first
returns-in-Some-owner-clause-first g c =
    rw (← c.in-Some.ensures.value, ← c.in-Some-owner.ensures.value) c.first_of.ensures.first

pub returns-in-None-clause-first : goal.returns-in-None-clause-first
returns-in-None-clause-first g c _ _ = rowless _ _ _ _ (sym c.in-None.ensures.value)
