use Rattle.std.proofs.Common.{◌≡◌, false}
use Rattle.position_core.specs.TopicName.{same_topic}
use Rattle.delivery_machine.specs.Places.{KeptTopic}
use Rattle.row_store.proofs.Lists.{AllBelow}
use Rattle.row_store.proofs.planning.is_unknown.Given as goal

abbrev pub invariant-loop-one : goal.invariant-loop-one
invariant-loop-one g l = AllBelow (λ (kept : KeptTopic). same_topic kept.name l.name ≡ false) l.known l.one-index
