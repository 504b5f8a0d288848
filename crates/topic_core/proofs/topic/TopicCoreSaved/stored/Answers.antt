use Rattle.delivery_machine.specs.declared.event.Event.TheVariants.{Stored}
use Rattle.machine_laws.proofs.ReachedOn.{reached_step}
use Rattle.topic_served.specs.Served.{state_in}
use Rattle.topic_core.proofs.topic.TopicCoreSaved.stored.Goals as goal

pub invariant_of-self : goal.invariant_of-self
invariant_of-self c = record {
  reached = reached_step (state_in c.self.inside.served) Stored c.stored.result (state_in c.stored.new.served) c.stored.ensures.answers c.self.invariant.reached;
  bound = c.stored.ensures.bound;
}
