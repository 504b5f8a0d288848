use Rattle.std.proofs.lemmas.Result.{on_ok_weaker}
use Rattle.topic_served.proofs.Asking.{in_order_has_none, joined_without, shared_has_none}
use Rattle.topic_served.proofs.dispatch.Dispatch.on_join.Goals as goal

pub returns-in-InOrder-clause-ok : goal.returns-in-InOrder-clause-ok
returns-in-InOrder-clause-ok g c =
    rw c.in-InOrder.is
    (on_ok_weaker c.on_join.result
    (λ after s sub change agreed. after s sub (joined_without c.args.ranges.now c.args.consumer s sub _ _ (in_order_has_none sub.kind agreed.kind) change) agreed)
    c.on_join.ensures.ok)

pub returns-in-InTurn-clause-ok : goal.returns-in-InTurn-clause-ok
returns-in-InTurn-clause-ok g c =
    rw c.in-InTurn.is
    (on_ok_weaker c.on_join-in-InTurn.result
    (λ after s sub change agreed. after s sub (joined_without c.args.ranges.now c.args.consumer s sub _ _ (shared_has_none sub.kind agreed.kind) change) agreed)
    c.on_join-in-InTurn.ensures.ok)
