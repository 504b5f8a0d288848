use Rattle.plain_topic.proofs.plain.PlainTopicOpened.restart.Goals as goal

pub invariant_of-result : goal.invariant_of-result
invariant_of-result c = c.in-Ok.ensures.reached
