use Rattle.topic_served.proofs.dispatch.Dispatch.undo_append.Goals as goal

pub returns-in-InOrder : goal.returns-in-InOrder
returns-in-InOrder g c = rw c.in-InOrder.is c.undo_append.ensures

pub returns-in-ByKey : goal.returns-in-ByKey
returns-in-ByKey g c = rw c.in-ByKey.is c.undo_append-in-ByKey.ensures
