-- A topic's life: what it is asked, and between that it goes on from its snapshot, or is deleted and made again.
use Rattle.std.specs.Prelude.{◌≡◌, Bool, false, ◌||◌, List, [], ◌∷◌}
use Rattle.delivery_machine.specs.State.{State}
use Rattle.delivery_machine.specs.Snapshot.{snapshot_of, restarted}
use Rattle.delivery_machine.specs.Run.{Answers}
use Rattle.delivery_machine.specs.declared.event.Event.{Event}
use Rattle.delivery_machine.specs.declared.reply.Reply.{Reply}
use Rattle.topic_lives.specs.Deleting.{IsDeletable, IsDeserted, made_again}

pub data Deed : Type 0 where
  -- it is asked, and answers
  asked : Event → Reply → Deed
  -- nobody is there, and it goes on from what is stored of it as it is
  goes_on : Deed
  -- it is deleted, and made again under its name
  begins_again : Deed

abbrev pub Does : State → Deed → State → Type 0
Does s (asked event reply) t = Answers s event reply t
Does s goes_on t = IsDeserted s × (t ≡ restarted (snapshot_of s))
Does s begins_again t = IsDeletable s × (t ≡ made_again s)

-- one deed after the other
abbrev pub Lives : State → List Deed → State → Type 0
Lives s [] t = t ≡ s
Lives s (deed ∷ deeds) t = (mid : State) × Does s deed mid × Lives mid deeds t

-- some event was answered so
abbrev pub some_deed : (Event → Reply → Bool) → List Deed → Bool
some_deed p [] = false
some_deed p (asked event reply ∷ deeds) = p event reply || some_deed p deeds
some_deed p (deed ∷ deeds) = some_deed p deeds
