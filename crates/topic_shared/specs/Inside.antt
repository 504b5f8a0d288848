-- What is known under the lock of a shared topic.
use Rattle.std.specs.Prelude.{◌≡◌, ◌<◌, ◌≤◌, ℕ, List, length, All}
use Rattle.delivery_machine.specs.State.{State}
use Rattle.topic_shared.specs.Kept.{Kept}
use Rattle.topic_shared.specs.Accounts.{Seated, seat_lines, calls_of}

-- the cell, and the seats that are free
pub record Locked : Type 0 where
  pub cell : Kept
  pub free : List Seated

-- the seats' lines are as many as the book's total; the pool has a part of it for each spare seat
pub record IsCounted (opening : State) (all : ℕ) (cell : Kept) (total : ℕ) (spares : List Seated) (capacity parts amount seats : ℕ) : Type 0 where
  pub opened : cell.opening ≡ opening
  pub counted : seat_lines cell.lines ≡ total
  pub parts_are : parts ≡ length spares
  pub amount_is : amount ≡ calls_of spares
  pub all_are : seats ≡ all
  pub room : all ≤ capacity
  pub numbered : All (λ (s : Seated). 0 < s.number) spares
