use Rattle.machine_laws.proofs.ReachedOn.{reached_step}
use Rattle.plain_topic.specs.StateOf.{state_of}
use Rattle.plain_topic.proofs.plain.PlainTopicTopic.apply.Goals as goal

pub invariant_of-self : goal.invariant_of-self
invariant_of-self c = reached_step (state_of c.self.inside.lists) c.args.event.now c.apply.result (state_of c.apply.new.self) c.apply.ensures c.self.invariant
