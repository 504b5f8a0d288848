use Rattle.machine_laws.proofs.ReachedOn.{reached_step}
use Rattle.topic_served.specs.Served.{state_in}
use Rattle.topic_core.proofs.topic.TopicCoreTopic.apply.Goals as goal

pub invariant_of-self : goal.invariant_of-self
invariant_of-self c = record {
  reached = reached_step (state_in c.self.inside.served) c.args.event.now c.answer.result (state_in c.answer.new.served) c.answer.ensures.answers c.self.invariant.reached;
  bound = c.answer.ensures.bound;
}
