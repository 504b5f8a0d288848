-- How an event is handed to a topic.
use Rattle.std.specs.Prelude.{◌≡◌, ◌⊎◌, ◌+◌, ℕ, length, Result, Ok, Err}
use Rattle.position_core.specs.declared.fault.Fault.{Fault}
use Rattle.delivery_machine.specs.State.{State}
use Rattle.delivery_machine.specs.declared.event.Event.{Event}
use Rattle.delivery_machine.specs.declared.event.Event.TheVariants.{StoredTo}
use Rattle.delivery_machine.specs.declared.reply.Reply.{Reply}
use Rattle.delivery_machine.specs.declared.reply.Reply.TheVariants.{Durable}
use Rattle.delivery_machine.specs.Run.{Step}
use Rattle.stored_cell.specs.Noted.{Noted}

-- what is answered is the topic's reply to the event; or the event was refused before the topic heard of it, which stays
abbrev pub HandsOn : State → Event → Result Reply Fault → State → Type 0
HandsOn s event (Ok reply) t = Step s event reply t
HandsOn s event (Err fault) t = t ≡ s

-- what was stored is called durable; or it is not what was viewed last, and nothing happens
abbrev pub Confirms : Noted → State → State → Type 0
Confirms noted s t = (t ≡ s) ⊎ ((count : ℕ) × Step s (StoredTo (noted.kept.gone + length noted.kept.log) noted.kept.next_ordinal) (Durable count) t)
