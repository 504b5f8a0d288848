-- Names to which the definitions are held.
use Rattle.std.proofs.Common.{◌≡◌, List, [], true, false, codes, refl}
use Rattle.position_core.specs.declared.topic_name.TopicName.{TopicName}
use Rattle.delivery_machine.specs.State.{fresh}
use Rattle.delivery_machine.specs.Trimming.{is_lasting}

courier_is_not_forgotten : (topic : TopicName) → is_lasting (fresh topic 100) [] (codes "dlq/a") ≡ true
courier_is_not_forgotten topic = refl

other_name_is_forgotten : (topic : TopicName) → is_lasting (fresh topic 100) [] (codes "dlqs/a") ≡ false
other_name_is_forgotten topic = refl
