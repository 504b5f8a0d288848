use Rattle.delivery_machine.specs.declared.event.Event.TheVariants.{Stored}
use Rattle.machine_laws.proofs.ReachedOn.{reached_step}
use Rattle.plain_topic.specs.StateOf.{state_of}
use Rattle.plain_topic.proofs.plain.PlainTopicSaved.stored.Goals as goal

pub invariant_of-self : goal.invariant_of-self
invariant_of-self c = reached_step (state_of c.self.inside.lists) Stored c.stored.result (state_of c.stored.new.self) c.stored.ensures c.self.invariant
