use Rattle.plain_topic.specs.StateOf.{state_of}
use Rattle.plain_topic.proofs.Saved.{rising_here, sound_here}
use Rattle.plain_topic.proofs.lists.Lists.snapshot.Goals as goal

pub kept_of_all-requires-clause-rising : goal.kept_of_all-requires-clause-rising
kept_of_all-requires-clause-rising c = rising_here (state_of c.args.self.now) c.deref-4.result.now c.requires c.deref-4.ensures.value

pub kept_of_all-requires-clause-sound : goal.kept_of_all-requires-clause-sound
kept_of_all-requires-clause-sound c = sound_here (state_of c.args.self.now) c.deref-3.result.now c.deref-4.result.now c.requires c.deref-3.ensures.value c.deref-4.ensures.value
