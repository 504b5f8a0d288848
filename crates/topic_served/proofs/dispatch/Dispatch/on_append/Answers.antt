use Rattle.topic_served.proofs.dispatch.Dispatch.on_append.Goals as goal

pub returns-in-InOrder-clause-ok : goal.returns-in-InOrder-clause-ok
returns-in-InOrder-clause-ok g c = rw c.in-InOrder.is c.on_append.ensures.ok

pub returns-in-ByKey-clause-ok : goal.returns-in-ByKey-clause-ok
returns-in-ByKey-clause-ok g c = rw c.in-ByKey.is c.on_append-in-ByKey.ensures.ok
