-- What is known of the messages of a hash, which has a row or none.
use Rattle.std.specs.Prelude.{◌≡◌, ◌==◌, ℕ, ◌+◌, ◌<◌, Bool, true, false, ◌&&◌, ◌||◌, Option, Some, is_some, if◌then◌else◌}
use Rattle.std.specs.Option.{option_map_or, option_and_then}
use Rattle.hash_rows.specs.Rows.{is_in, waits_in, holds_in}
use Rattle.hash_rows.specs.declared.row.Row.{Row}

-- what a table has of a hash: the row, if there is one, and how many messages went since the numbers of its rows began
pub record Found : Type 0 where
  pub row : Option Row
  pub base : ℕ

-- the message was put into the row
unfoldable pub is_placed : Found → ℕ → Bool
is_placed known i = option_map_or (λ r. is_in r (known.base + i)) known.row false

-- the row has it as one that waits
unfoldable pub waits_there : Found → ℕ → Bool
waits_there known i = option_map_or (λ r. waits_in r (known.base + i)) known.row false

-- the row has it as one that is pending
unfoldable pub holds_there : Found → ℕ → Bool
holds_there known i = option_map_or (λ r. holds_in r (known.base + i)) known.row false

-- the consumer at which all are that are pending, where that is known
unfoldable pub keeper_of : Found → Option ℕ
keeper_of known = option_and_then (λ r. r.keeper) known.row

-- the same row, once n more messages went
abbrev pub later : ℕ → Found → Found
later n known = record { row = known.row; base = known.base + n }

abbrev pub AllPlacedBefore : Found → ℕ → Type 0
AllPlacedBefore row index = (i : ℕ) → is_placed row i ≡ true → i < index

-- ---- changes

-- the same is known, but that the keeper may be known no more
pub record SameKnowledge (old new : Found) : Type 0 where
  pub places : (i : ℕ) → is_placed new i ≡ is_placed old i
  pub waits : (i : ℕ) → waits_there new i ≡ waits_there old i
  pub holds : (i : ℕ) → holds_there new i ≡ holds_there old i
  pub keeper : (consumer : ℕ) → keeper_of new ≡ Some consumer → keeper_of old ≡ Some consumer

-- the message, where it is in the row, waits now or not, and is pending at the holder, if there is one
pub record Stands (index : ℕ) (wait : Bool) (holder : Option ℕ) (old new : Found) : Type 0 where
  pub places : (i : ℕ) → is_placed new i ≡ is_placed old i
  pub waits : (i : ℕ) → waits_there new i ≡ (if i == index then is_placed old i && wait else waits_there old i)
  pub holds : (i : ℕ) → holds_there new i ≡ (if i == index then is_placed old i && is_some holder else holds_there old i)
  pub keeper : (c : ℕ) → keeper_of new ≡ Some c → ((i : ℕ) → holds_there old i ≡ true → keeper_of old ≡ Some c) × ((h : ℕ) → holder ≡ Some h → h ≡ c)

-- the row has one message more, which waits
pub record Added (index : ℕ) (old new : Found) : Type 0 where
  pub places : (i : ℕ) → is_placed new i ≡ (i == index || is_placed old i)
  pub waits : (i : ℕ) → waits_there new i ≡ (i == index || waits_there old i)
  pub holds : (i : ℕ) → holds_there new i ≡ holds_there old i
  pub keeper : keeper_of new ≡ keeper_of old
