-- Steps and runs: a run goes on by one step, and keeps what each step keeps.
use Rattle.std.proofs.Common.{◌≡◌, List, [], ◌∷◌, ◌++◌, None, ◌⊎◌, inl, inr, subst, refl, sym}
use Rattle.position_core.specs.declared.fault.Fault.TheVariants.{NoMemory}
use Rattle.delivery_machine.specs.State.{State}
use Rattle.delivery_machine.specs.Refusals.{refusal_of}
use Rattle.delivery_machine.specs.Run.{Run, Answers, Takes}
use Rattle.delivery_machine.specs.declared.event.Event.{Event}
use Rattle.delivery_machine.specs.declared.reply.Reply.{Reply}
use Rattle.delivery_machine.specs.declared.reply.Reply.TheVariants.{Refused}

pub Run-push : (s : State) (events : List Event) (replies : List Reply) (t : State) (event : Event) (reply : Reply) (u : State) → Run s events replies t → Answers t event reply u → Run s (events ++ event ∷ []) (replies ++ reply ∷ []) u
Run-push s [] [] t event reply u run step = (u, subst (λ (v : State). Answers v event reply u) run step, refl)
Run-push s (e ∷ events) (r ∷ replies) t event reply u run step = (run.0, run.1, Run-push run.0 events replies t event reply u run.2 step)
Run-push s [] (r ∷ replies) t event reply u run step = absurd run
Run-push s (e ∷ events) [] t event reply u run step = absurd run

-- the event was refused, or it was taken
pub split : (s : State) (event : Event) (reply : Reply) (t : State) → Answers s event reply t → (t ≡ s) ⊎ ((refusal_of s event ≡ None) × Takes s event reply t)
split s event (Refused NoMemory) t h = inl h.2
split s event (Refused fault) t h = inl h.1
split s event reply t h = inr h

-- what each step keeps, each run keeps
pub Run-keeps : (P : State → Type 0) → ((s : State) (event : Event) (reply : Reply) (t : State) → Answers s event reply t → P s → P t) → (s : State) (events : List Event) (replies : List Reply) (t : State) → Run s events replies t → P s → P t
Run-keeps P step s [] [] t run p = subst P (sym run) p
Run-keeps P step s (e ∷ events) (r ∷ replies) t run p = Run-keeps P step run.0 events replies t run.2 (step s e r run.0 run.1 p)
Run-keeps P step s [] (r ∷ replies) t run p = absurd run
Run-keeps P step s (e ∷ events) [] t run p = absurd run
