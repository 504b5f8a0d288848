-- What an attach comes to.
use Rattle.std.specs.Prelude.{◌≡◌, ◌<◌, ℕ, List, ⊤}
use Rattle.position_core.specs.TopicName.{topic_text}
use Rattle.delivery_machine.specs.declared.saved.Saved as saved
use Rattle.delivery_machine.specs.declared.topic.Topic as topic
use Rattle.marks.specs.declared.history.Naming as naming
use Rattle.broker_dir.specs.Listing.{IsListed}
use Rattle.broker_parts.specs.declared.broker.Coming.{Coming}
use Rattle.broker_parts.specs.declared.broker.Coming.TheVariants.{Seated, Waits}
use Rattle.broker_dir.specs.declared.attached.Attached.{Attached}

module _ {T J B : Type 0} {asks : topic.Ghosts T} {saves : saved.Ghosts T} {names : naming.Ghosts J} where
  -- it is to the topic with this text: a seat there, or a place among those who wait for it
  abbrev pub IsComing : List ℕ → Coming (Attached T J B asks saves names) B → Type 0
  IsComing text (Seated attached) = topic_text attached.topic.value.name ≡ text
  IsComing text (Waits waiter) = topic_text waiter.opening.value.name ≡ text

  -- where it is a seat, it is somebody's
  abbrev pub HasSeat : Coming (Attached T J B asks saves names) B → Type 0
  HasSeat (Seated attached) = 0 < attached.seat
  HasSeat (Waits waiter) = ⊤

  -- where it is a seat, the name is listed; and else those that are listed stay
  abbrev pub Lists : List (List ℕ) → List ℕ → List (List ℕ) → Coming (Attached T J B asks saves names) B → Type 0
  Lists old name new (Seated attached) = IsListed old name new
  Lists old name new (Waits waiter) = new ≡ old
