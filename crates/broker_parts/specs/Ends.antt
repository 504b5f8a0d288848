-- Which events end a producer or a consumer, and what is refused of a topic that may not be used.
use Rattle.std.specs.Prelude.{Bool, false, true, Option, Some, None, if◌then◌else◌}
use Rattle.position_core.specs.declared.fault.Fault.{Fault}
use Rattle.position_core.specs.declared.fault.Fault.TheVariants.{JournalFull, NoRoom, NoSuchSubscription}
use Rattle.delivery_machine.specs.declared.event.Event.{Event}
use Rattle.delivery_machine.specs.declared.event.Event.TheVariants.{DropProducer, Leave}
use Rattle.broker_parts.specs.declared.stage.Stage.{Stage}
use Rattle.broker_parts.specs.declared.stage.Stage.TheVariants.{Open, Leaving, Gone}

abbrev pub is_ending : Event → Bool
is_ending (DropProducer producer) = true
is_ending (Leave consumer) = true
is_ending event = false

-- why a topic may not be used: its journal is full (F15), or it was deleted, so that it is as one that is not known (F11)
abbrev pub refusal_at : Stage → Option Fault
refusal_at Open = None
refusal_at Leaving = Some JournalFull
refusal_at Gone = Some NoSuchSubscription

-- why nobody may sit down there: its journal is full (F15), or it was deleted, and has no seats (F21)
abbrev pub entry_refusal : Stage → Option Fault
entry_refusal Open = None
entry_refusal Leaving = Some JournalFull
entry_refusal Gone = Some NoRoom

-- all is refused there but that somebody goes
abbrev pub refused_at : Stage → Event → Option Fault
refused_at stage event = if is_ending event then None else refusal_at stage
