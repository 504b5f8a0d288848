use Rattle.std.proofs.Common.{arith, sym}
use Rattle.topic_subscriptions.proofs.Outcomes.{has_some, gap_is, less_owed, still_owed, owed_acknowledged, other_acknowledged}
use Rattle.topic_subscriptions.proofs.closed.Closed.acknowledge.Goals as goal

pub overflow_sub-self : goal.overflow_sub-self
overflow_sub-self c = omega (arith, has_some c.self.inside.owed.places c.args.place (sym c.if-has.ensures), c.self.invariant.counted)

pub invariant_of-self : goal.invariant_of-self
invariant_of-self c = rw (c.in-Ok.ensures.ok, c.remove.ensures) (less_owed c.self.inside.all c.self.inside.owed.places c.args.place c.self.inside.owed_count c.self.invariant (sym c.if-has.ensures))

pub invariant_of-self-else-has : goal.invariant_of-self-else-has
invariant_of-self-else-has c = rw c.in-Ok.ensures.ok (still_owed c.self.inside.all c.self.inside.owed.places c.args.place c.self.inside.owed_count c.self.invariant)

pub returns-then-has-clause-ok : goal.returns-then-has-clause-ok
returns-then-has-clause-ok c = rw (c.in-Ok.ensures.ok, c.remove.ensures, ← c.self.view_is) (owed_acknowledged c.self.inside.all c.self.inside.owed.places c.args.place)

pub returns-else-has-clause-ok : goal.returns-else-has-clause-ok
returns-else-has-clause-ok c = rw (c.in-Ok.ensures.ok, ← c.self.view_is) (other_acknowledged c.self.inside.all c.self.inside.owed.places c.args.place (sym c.if-has.ensures))

pub returns-in-Err-clause-gap : goal.returns-in-Err-clause-gap
returns-in-Err-clause-gap c = rw (← c.self.view_is) (gap_is c.self.inside.all c.self.inside.owed.places c.args.place c.self.invariant.within c.in-Err.ensures.gap)
