use Rattle.std.proofs.Common.{arith, subst, sym, lit≤}
use Rattle.delivery_machine.specs.WellFormed.{AreAuthors}
use Rattle.topic_log.proofs.Free.{kept_afresh, no_authors}
use Rattle.topic_log.proofs.topic_log.TopicLog.new.Goals as goal

pub invariant_of-result : goal.invariant_of-result
invariant_of-result c =
    kept_afresh 0 c.new.result.items c.new-2.result.log 0 c.new-5.result.items (omega arith) (lit≤ tt) (subst (AreAuthors 0) (sym c.new.ensures.items) no_authors) c.new-5.ensures.items
