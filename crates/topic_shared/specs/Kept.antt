-- A topic with its journal, as contracts see it.
use Rattle.std.specs.Prelude.{◌≡◌, ◌==◌, ℕ, ◌+◌, ◌-◌, ◌≤◌, ◌++◌, ◌∷◌, nat_lt, Bool, true, false, List, [], length, slice_get, if◌then◌else◌}
use Rattle.std.specs.Option.{option_map_or}
use Rattle.delivery_machine.specs.State.{State}
use Rattle.delivery_machine.specs.Snapshot.{snapshot_of}
use Rattle.delivery_machine.specs.Run.{Step}
use Rattle.delivery_machine.specs.declared.event.Event.{Event}
use Rattle.delivery_machine.specs.declared.reply.Reply.TheVariants.{Durable}
use Rattle.topic_shared.specs.Lines.{Line, line, Legal}
use Rattle.topic_shared.specs.Attached.{detaches, needs}
use Rattle.delivery_machine.specs.Journals.{producers_in, consumers_in}

-- `began` is the state in which the cell was made, `opening` the one before the lines, and `viewed` the one of which a
-- snapshot was last taken; `taken` says of each seat, from seat 1 on, whether it is taken; `own_line` is whether the cell
-- keeps its last line for itself still, and `promised`, whether a line is kept for what a store is about to confirm; `unsaved`,
-- whether a snapshot may have changed since the last one was taken
pub record Kept : Type 0 where
  pub began : State
  pub opening : State
  pub state : State
  pub viewed : State
  pub lines : List Line
  pub limit : ℕ
  pub taken : List Bool
  pub own_line : Bool
  pub promised : Bool
  pub unsaved : Bool

-- one line for each producer and consumer that is attached, and the cell's own
abbrev pub kept_lines : Kept → ℕ
kept_lines k =
    length (producers_in k.state) + length (consumers_in k.state) + (if k.own_line then 1 else 0) + (if k.promised then 1 else 0)

-- nobody is connected
abbrev pub IsVacant : State → Type 0
IsVacant s = (producers_in s ≡ []) × (consumers_in s ≡ [])

-- the lines that are written, and those that are kept
abbrev pub spoken_for : Kept → ℕ
spoken_for k = length k.lines + kept_lines k

-- the lines that the event needs beside these
abbrev pub needed_by : Kept → Event → ℕ
needed_by k event = needs (producers_in k.state) (consumers_in k.state) event

-- the event detaches a producer or a consumer that is attached
abbrev pub is_end : Kept → Event → Bool
is_end k event = detaches (producers_in k.state) (consumers_in k.state) event

-- some journal leads from the one state to the other
abbrev pub Leads : State → State → Type 0
Leads s t = (lines : List Line) × Legal s lines t

-- the last line is the cell's own, if there is one
abbrev pub is_settled : List Line → Bool
is_settled lines = option_map_or (λ l. l.seat == 0) (slice_get lines (length lines - 1)) true

-- a call leaves where the cell began, the opening state, the seats and the limit as they were, and what is kept for the cell itself
pub record KeepsSeats (k l : Kept) : Type 0 where
  pub began : l.began ≡ k.began
  pub opening : l.opening ≡ k.opening
  pub viewed : l.viewed ≡ k.viewed
  pub limit : l.limit ≡ k.limit
  pub taken : l.taken ≡ k.taken
  pub own_line : l.own_line ≡ k.own_line
  pub promised : l.promised ≡ k.promised

-- a line is promised, if it was not: one that is not kept where there is one, else the cell's last
abbrev pub with_promise : Kept → Kept
with_promise k =
    if k.promised then k
    else if nat_lt (spoken_for k) k.limit then record k { promised = true }
    else record k { own_line = false; promised = true }

-- no line is left, not even the cell's last
pub record HasNoLine (k : Kept) : Type 0 where
  pub none_promised : k.promised ≡ false
  pub full : k.limit ≤ spoken_for k
  pub none_own : k.own_line ≡ false

-- the same, but for the lines that the cell keeps for itself
abbrev pub SameButPromise : Kept → Kept → Type 0
SameButPromise k l = l ≡ record k { own_line = l.own_line; promised = l.promised }

-- the cell's own line of what is stored: the topic took the step, and a line was promised no more
pub record StoresLine (k : Kept) (event : Event) (count : ℕ) (l : Kept) : Type 0 where
  pub step : Step k.state event (Durable count) l.state
  pub line : l.lines ≡ k.lines ++ line 0 event (Durable count) ∷ []
  pub others : l ≡ record k { state = l.state; lines = l.lines; promised = false }

-- what every cell keeps, with its lists of attached numbers and the room of its lines
pub record IsKept (k : Kept) (producers consumers : List ℕ) (capacity : ℕ) : Type 0 where
  pub leads : Leads k.began k.opening
  pub legal : Legal k.opening k.lines k.state
  pub producers_are : producers ≡ producers_in k.state
  pub consumers_are : consumers ≡ consumers_in k.state
  pub room : spoken_for k ≤ k.limit
  pub reserved : spoken_for k ≤ capacity
  pub as_viewed : k.unsaved ≡ false → snapshot_of k.state ≡ snapshot_of k.viewed
