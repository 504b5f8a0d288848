-- What a courier's request comes to at a topic.
use Rattle.std.specs.Prelude.{◌≡◌, Option, Some, Result, Err}
use Rattle.position_core.specs.declared.fault.Fault.{Fault}
use Rattle.delivery_machine.specs.declared.event.Event.{Event}
use Rattle.delivery_machine.specs.declared.reply.Reply.{Reply}
use Rattle.session_links.specs.declared.request.Request.{Request}
use Rattle.session_links.specs.declared.request.Request.TheVariants.{Event as OfEvent}

-- the topic that is open answers the event; all else is refused before it hears of it
abbrev pub Visits : {X : Type 0} → (X → Event → Result Reply Fault → Type 0) → Option X → Request → Result Reply Fault → Type 0
Visits answers (Some topic) (OfEvent event) result = answers topic event result
Visits answers topic request result = (fault : Fault) × (result ≡ Err fault)
