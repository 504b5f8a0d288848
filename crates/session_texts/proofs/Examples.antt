-- What a consumer's commands ask, to which the definitions are held.
use Rattle.std.proofs.Common.{◌≡◌, ℕ, Some, refl}
use Rattle.position_core.specs.declared.position.Position.{Position}
use Rattle.delivery_machine.specs.declared.event.Event.TheVariants.{Ack, AckUpTo}
use Rattle.wire_json.specs.declared.commands.Command.TheVariants.{Acknowledge, AcknowledgeUpTo}
use Rattle.session_texts.specs.Requests.{event_of_command}

acknowledges_the_message_itself : (consumer now : ℕ) (position : Position) → event_of_command consumer now (Acknowledge position) ≡ Some (Ack consumer position)
acknowledges_the_message_itself consumer now position = refl

acknowledges_all_up_to_it : (consumer now : ℕ) (position : Position) → event_of_command consumer now (AcknowledgeUpTo position) ≡ Some (AckUpTo consumer position)
acknowledges_all_up_to_it consumer now position = refl
