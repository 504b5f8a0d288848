use Rattle.machine_laws.proofs.ReachedOn.{reached_sound}
use Rattle.plain_topic.specs.StateOf.{state_of}
use Rattle.plain_topic.proofs.plain.PlainTopicSaved.view.Goals as goal

pub snapshot-requires : goal.snapshot-requires
snapshot-requires c = reached_sound (state_of c.self.inside.lists) c.self.invariant
