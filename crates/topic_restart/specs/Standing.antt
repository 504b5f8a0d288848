-- How a topic stands that can be stored.
use Rattle.delivery_machine.specs.State.{State}
use Rattle.delivery_machine.specs.Snapshot.{Snapshot, snapshot_of}
use Rattle.delivery_machine.specs.declared.event.Event.{Event}
use Rattle.delivery_machine.specs.declared.event.Event.TheVariants.{Stored}

-- how a topic stands: its state, and what is stored of it
pub record Standing : Type 0 where
  pub state : State
  pub stored : Snapshot

-- what is stored of a topic that has just been opened is its snapshot
abbrev pub opening : State → Standing
opening s = record { state = s; stored = snapshot_of s }

-- what is stored once the event was answered: `Stored` keeps the snapshot of that moment
abbrev pub stored_by : Event → Standing → Snapshot
stored_by Stored s = snapshot_of s.state
stored_by event s = s.stored
