-- What a look takes from the topic.
use Rattle.std.proofs.Common.{◌≡◌, ℕ, ◌+◌, List, Result, Ok, Err, IfOk, IfErr, ap, ◌∙◌}
use Rattle.position_core.specs.declared.fault.Fault.{Fault}
use Rattle.position_core.specs.declared.fault.Fault.TheVariants.{NoMemory}
use Rattle.delivery_machine.specs.State.{State}
use Rattle.delivery_machine.specs.Places.{KeptTopic, snapshot_in}
use Rattle.delivery_machine.specs.Producing.{had}
use Rattle.delivery_machine.specs.Run.{Answers}
use Rattle.delivery_machine.specs.Snapshot.{snapshot_of}
use Rattle.delivery_machine.specs.declared.event.Event.TheVariants.{Progress}
use Rattle.delivery_machine.specs.declared.reply.Reply.{Reply}
use Rattle.delivery_machine.specs.declared.reply.Reply.TheVariants.{Progress as Progressed, Refused}
use Rattle.session_links.specs.Looking.{Shows, shown_of}

-- how much is stored is always told, and nothing changes
pub record IsTold (s : State) (reply : Reply) (t : State) : Type 0 where
  pub is : reply ≡ Progressed (s.gone + s.durable) (had s)
  pub stays : t ≡ s

pub told : (s t : State) (reply : Reply) → Answers s Progress reply t → IsTold s reply t
told s t (Refused NoMemory) h = absurd (cc (h.0))
told s t (Refused fault) h = absurd (cc (h.0))
told s t reply h = record { is = h.1.0; stays = h.1.1 }

-- what a look shows is of the state that it was taken in
pub shows : (s : State) (kept : KeptTopic) (stored : ℕ) (name : List ℕ) (count : ℕ) (answer : Result Reply Fault) → snapshot_in kept ≡ snapshot_of s → stored ≡ s.gone + s.durable
    → IfOk answer (λ reply. reply ≡ shown_of kept stored name count) → IfErr answer (λ fault. fault ≡ NoMemory) → Shows s name count answer
unfolding Shows
shows s kept stored name count (Ok reply) same is ok err = (kept, same, ok ∙ ap (λ n. shown_of kept n name count) is)
shows s kept stored name count (Err fault) same is ok err = err

pub shows_none : (s : State) (name : List ℕ) (count : ℕ) (fault : Fault) → fault ≡ NoMemory → Shows s name count (Err fault)
unfolding Shows
shows_none s name count fault is = is
