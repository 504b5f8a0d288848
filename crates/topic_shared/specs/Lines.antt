-- The lines of a journal, and the journals that are legal: each line is a step of the delivery machine.
use Rattle.std.specs.Prelude.{◌≡◌, ℕ, List, [], ◌∷◌}
use Rattle.delivery_machine.specs.State.{State}
use Rattle.delivery_machine.specs.Run.{Step}
use Rattle.delivery_machine.specs.declared.event.Event.{Event}
use Rattle.delivery_machine.specs.declared.reply.Reply.{Reply}

-- what was asked at a seat, and what was answered
pub record Line : Type 0 where
  pub seat : ℕ
  pub event : Event
  pub reply : Reply

abbrev pub line : ℕ → Event → Reply → Line
line seat event reply = record { seat = seat; event = event; reply = reply }

-- the lines are steps that lead from the one state to the other
abbrev pub Legal : State → List Line → State → Type 0
Legal s [] t = t ≡ s
Legal s (l ∷ ls) t = (mid : State) × Step s l.event l.reply mid × Legal mid ls t
