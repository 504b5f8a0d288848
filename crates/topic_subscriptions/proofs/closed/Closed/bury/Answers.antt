use Rattle.std.proofs.Common.{◌≡◌, true, arith, sym, subst}
use Rattle.topic_subscriptions.specs.Closed.{Outcomes, is_open}
use Rattle.topic_subscriptions.proofs.Outcomes.{owed_again, more_owed, one_buried}
use Rattle.topic_subscriptions.proofs.closed.Closed.bury.Goals as goal

pub overflow_sub-self : goal.overflow_sub-self
overflow_sub-self c = omega (arith, owed_again c.self.inside.all c.self.inside.owed.places c.put.new.all c.args.place _ _ c.args.self.now c.self.invariant.within c.self.view_is c.requires.is_open c.in-Ok.ensures.ok c.number_acknowledged-acknowledged.ensures c.len.ensures)

pub invariant_of-self : goal.invariant_of-self
invariant_of-self c =
    let parts = owed_again c.self.inside.all c.self.inside.owed.places c.put.new.all c.args.place _ _ c.args.self.now c.self.invariant.within c.self.view_is c.requires.is_open c.in-Ok.ensures.ok c.number_acknowledged-acknowledged.ensures c.len.ensures in
    rw (c.in-Ok.ensures.ok, c.in-Ok.ensures.ok_owed) (more_owed c.self.inside.all c.self.inside.owed.places c.args.place _ c.self.invariant.within (omega (arith, parts)))

pub returns-in-Ok-clause-ok : goal.returns-in-Ok-clause-ok
returns-in-Ok-clause-ok c =
    rw (c.in-Ok.ensures.ok, c.in-Ok.ensures.ok_owed, ← c.self.view_is)
    (one_buried c.self.inside.all c.self.inside.owed.places c.args.place c.self.invariant.within (subst (λ (o : Outcomes). is_open o c.args.place ≡ true) (sym c.self.view_is) c.requires.is_open))
