-- What commands ask for.
use Rattle.std.specs.Prelude.{ℕ, Option, Some, None}
use Rattle.delivery_machine.specs.declared.event.Event.{Event}
use Rattle.delivery_machine.specs.declared.event.Event.TheVariants.{Ack, AckUpTo, Nack, Permit, Seek, SeekTime, Skip, DropSubscription, Stats, SetRetention}
use Rattle.session_links.specs.declared.request.Request.{Request}
use Rattle.session_links.specs.declared.request.Request.TheVariants.{BackUp, CreateSubscription, DeleteTopic, Disconnect, Event as OfEvent, Peek}
use Rattle.wire_json.specs.declared.commands.Command.{Command}
use Rattle.wire_json.specs.declared.commands.Command.TheVariants.{Acknowledge, AcknowledgeUpTo, NegativeAcknowledge, Permit as Permitting, IsEndOfTopic}
use Rattle.wire_json.specs.declared.admins.AdminCommand.{AdminCommand}
use Rattle.wire_json.specs.declared.admins.AdminCommand.TheVariants.{Seek as Seeking, SeekTime as SeekingTime, Skip as Skipping, DropSubscription as Dropping, Stats as Showing, CreateSubscription as Creating, Peek as Peeking, Keep as Keeping, Disconnect as Disconnecting, BackUp as BackingUp, Overview as Overseeing, DeleteTopic as Deleting}

-- the event that the consumer's command asks for; none asks whether the topic has an end
abbrev pub event_of_command : ℕ → ℕ → Command → Option Event
event_of_command consumer now (Acknowledge position) = Some (Ack consumer position)
event_of_command consumer now (AcknowledgeUpTo position) = Some (AckUpTo consumer position)
event_of_command consumer now (NegativeAcknowledge position) = Some (Nack consumer position now)
event_of_command consumer now (Permitting permits) = Some (Permit consumer permits)
event_of_command consumer now IsEndOfTopic = None

-- what the administrator's command asks for; none asks what is seen of the broker
abbrev pub request_of_admin : AdminCommand → Option Request
request_of_admin (Seeking subscription target) = Some (OfEvent (Seek subscription target))
request_of_admin (SeekingTime subscription time) = Some (OfEvent (SeekTime subscription time))
request_of_admin (Skipping subscription count) = Some (OfEvent (Skip subscription count))
request_of_admin (Dropping subscription) = Some (OfEvent (DropSubscription subscription))
request_of_admin (Showing subscription) = Some (OfEvent (Stats subscription))
request_of_admin (Creating subscription target) = Some (CreateSubscription subscription target)
request_of_admin (Peeking subscription count) = Some (Peek subscription count)
request_of_admin (Keeping retention) = Some (OfEvent (SetRetention retention))
request_of_admin (Disconnecting session) = Some (Disconnect session)
request_of_admin BackingUp = Some BackUp
request_of_admin Overseeing = None
request_of_admin Deleting = Some DeleteTopic
