-- What the seats' counts say of a journal.
use Rattle.std.specs.Prelude.{◌≡◌, ℕ, ◌+◌, Bool, true, ◌==◌, ◌||◌, not, count_by, slice_get, All, Some, List, [], length}
use Rattle.std.specs.List.{sum_by, list_any}
use Rattle.delivery_machine.specs.State.{State, fresh}
use Rattle.delivery_machine.specs.Run.{Step}
use Rattle.delivery_machine.specs.declared.event.Event.{Event}
use Rattle.delivery_machine.specs.declared.reply.Reply.{Reply}
use Rattle.topic_shared.specs.Lines.{Line, line, Legal}

-- a seat by its number, and how many of its calls were answered
pub record Seated : Type 0 where
  pub number : ℕ
  pub calls : ℕ

-- how many lines the seat has
abbrev pub lines_of : ℕ → List Line → ℕ
lines_of number lines = count_by (λ (l : Line). l.seat == number) lines

-- how many lines all seats have: those of seat 0 are the topic's own
abbrev pub seat_lines : List Line → ℕ
seat_lines lines = count_by (λ (l : Line). not (l.seat == 0)) lines

abbrev pub calls_of : List Seated → ℕ
calls_of seats = sum_by (λ (s : Seated). s.calls) seats

-- each seat has as many lines as calls that were answered
abbrev pub AllCounted : List Line → List Seated → Type 0
AllCounted lines seats = All (λ (s : Seated). lines_of s.number lines ≡ s.calls) seats

-- the seat is among these
abbrev pub is_listed : ℕ → List Seated → Bool
is_listed number seats = list_any (λ (s : Seated). s.number == number) seats

-- all lines are of these seats, or the topic's own
abbrev pub NoOthers : List Line → List Seated → List Seated → Type 0
NoOthers lines seats returned =
    All (λ (l : Line). (l.seat == 0) || (is_listed l.seat seats || is_listed l.seat returned) ≡ true) lines

-- of a journal whose seats are all here, so many: those that were handed in, and those that were returned before
pub record Accounts (all : ℕ) (lines : List Line) (seats returned : List Seated) : Type 0 where
  pub whole : length seats + length returned ≡ all
  pub each : AllCounted lines seats
  pub each_returned : AllCounted lines returned
  pub total : seat_lines lines ≡ calls_of seats + calls_of returned
  pub no_others : NoOthers lines seats returned

-- the line of the number is the seat's, of this event and this reply
abbrev pub Stands : List Line → ℕ → ℕ → Event → Reply → Type 0
Stands lines number seat event reply = slice_get lines number ≡ Some (line seat event reply)

-- in some state the machine may so reply
abbrev pub MayReply : Event → Reply → Type 0
MayReply event reply = (s : State) × (t : State) × Step s event reply t

-- the journal is legal from this state on
abbrev pub IsLegal : State → List Line → Type 0
IsLegal s lines = (t : State) × Legal s lines t

-- an opening state for what is named and never opened
abbrev pub nowhere : State
nowhere = fresh (record { tenant = []; namespace = []; topic = [] }) 1
