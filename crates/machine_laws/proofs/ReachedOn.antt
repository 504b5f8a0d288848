-- A state that a run comes to: each step leads to another, a sound snapshot to one that goes on, and its own snapshot is sound.
use Rattle.std.proofs.Common.{[], ◌∷◌, ◌++◌, inl, inr, refl}
use Rattle.std.specs.Prelude.{ℕ}
use Rattle.position_core.specs.declared.topic_name.TopicName.{TopicName}
use Rattle.delivery_machine.specs.State.{State, fresh}
use Rattle.delivery_machine.specs.Snapshot.{Snapshot, snapshot_of, restarted}
use Rattle.delivery_machine.specs.WellFormed.{IsSound}
use Rattle.delivery_machine.specs.Laws.{IsReached}
use Rattle.delivery_machine.specs.Run.{Answers}
use Rattle.delivery_machine.specs.declared.event.Event.{Event}
use Rattle.delivery_machine.specs.declared.reply.Reply.{Reply}
use Rattle.delivery_machine.proofs.RunSteps.{Run-push}
use Rattle.machine_laws.proofs.WellReached.{reached_all}
use Rattle.machine_laws.proofs.WellFormedStates.{sound_snapshot}

pub reached_fresh : (name : TopicName) (ledger_size : ℕ) → IsReached (fresh name ledger_size)
reached_fresh name ledger_size = (fresh name ledger_size, [], [], inl (name, ledger_size, refl), refl)

pub reached_restarted : (kept : Snapshot) → IsSound kept → IsReached (restarted kept)
reached_restarted kept sound = (restarted kept, [], [], inr (kept, sound, refl), refl)

pub reached_step : (s : State) (event : Event) (reply : Reply) (t : State) → Answers s event reply t → IsReached s → IsReached t
reached_step s event reply t step at =
    (at.0, at.1 ++ event ∷ [], at.2 ++ reply ∷ [], at.3, Run-push at.0 at.1 at.2 s event reply t at.4 step)

pub reached_sound : (s : State) → IsReached s → IsSound (snapshot_of s)
reached_sound s at = sound_snapshot s (reached_all at.0 at.1 at.2 s at.3 at.4)
