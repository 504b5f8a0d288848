-- What a row knows of the messages of its hash, by their indexes.
use Rattle.std.specs.Prelude.{◌≡◌, ◌==◌, ℕ, ◌+◌, nat_lt, ◌<◌, Bool, true, ◌||◌, Some, length}
use Rattle.std.specs.FinSet as set
use Rattle.delivery_machine.specs.State.{State, Subscription}
use Rattle.dispatch_core.specs.Log.{holder_at}
use Rattle.hash_rows.specs.Ranks.{rank_of}
use Rattle.hash_rows.specs.declared.row.Row.{Row}

-- the message was put into the row
abbrev pub is_in : Row → ℕ → Bool
is_in row i = nat_lt (rank_of row.places.items i) (length row.places.items)

-- it is in the row, and waits
unfoldable pub waits_in : Row → ℕ → Bool
waits_in row i = set.contains row.waiting.places (rank_of row.places.items i)

-- it is in the row, and pending
unfoldable pub holds_in : Row → ℕ → Bool
holds_in row i = set.contains row.held.places (rank_of row.places.items i)

-- all in the row stand before the index
abbrev pub AllBefore : Row → ℕ → Type 0
AllBefore row index = (i : ℕ) → is_in row i ≡ true → i < index

-- the second row knows as much as the first
pub record KnowsAsMuch (row other : Row) : Type 0 where
  pub places : (i : ℕ) → is_in other i ≡ is_in row i
  pub waits : (i : ℕ) → waits_in other i ≡ waits_in row i
  pub holds : (i : ℕ) → holds_in other i ≡ holds_in row i
  pub keeper : other.keeper ≡ row.keeper

-- the second row has one message more, which waits
pub record HasOneMore (index : ℕ) (row other : Row) : Type 0 where
  pub places : (i : ℕ) → is_in other i ≡ (i == index || is_in row i)
  pub waits : (i : ℕ) → waits_in other i ≡ (i == index || waits_in row i)
  pub holds : (i : ℕ) → holds_in other i ≡ holds_in row i
  pub keeper : other.keeper ≡ row.keeper

-- of the messages from `base` on all that are pending are so at the consumer
abbrev pub AreAllAt : Row → ℕ → State → Subscription → ℕ → Type 0
AreAllAt row base s sub consumer = (i : ℕ) → holds_in row (base + i) ≡ true → holder_at s sub i ≡ Some consumer

-- the keeper, where there is one, holds all that are pending
abbrev pub KeepsAll : Row → ℕ → State → Subscription → Type 0
KeepsAll row base s sub = (consumer : ℕ) → row.keeper ≡ Some consumer → AreAllAt row base s sub consumer

-- of the messages from `base` on the second row knows as much as the first
pub record KnowsFrom (base : ℕ) (row other : Row) : Type 0 where
  pub places : (i : ℕ) → is_in other (base + i) ≡ is_in row (base + i)
  pub waits : (i : ℕ) → waits_in other (base + i) ≡ waits_in row (base + i)
  pub holds : (i : ℕ) → holds_in other (base + i) ≡ holds_in row (base + i)
  pub keeper : other.keeper ≡ row.keeper
