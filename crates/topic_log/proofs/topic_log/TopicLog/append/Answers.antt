use Rattle.topic_log.proofs.Free.{kept_either}
use Rattle.topic_log.proofs.topic_log.TopicLog.append.Goals as goal

pub invariant_of-self : goal.invariant_of-self
invariant_of-self c =
    let i = c.self.inside in
    kept_either i.gone i.authors.items i.entries c.append.new.self i.durable i.first_auto i.gaps.items c.args.message c.append.result c.append.ensures.ok c.append.ensures.err c.self.invariant
