-- What the map keeps of each position, and what it is seen as.
use Rattle.std.specs.Prelude.{◌≡◌, ℕ, ◌+◌, ◌≤◌, min, Bool, false, List, [], ◌∷◌, Option, Some, None, if◌then◌else◌, ◌==◌}
use Rattle.std.specs.List.{slice_get}
use Rattle.std.specs.Option.{option_map, option_and_then, is_some}
use Rattle.std.specs.Map.{lookup}
use Rattle.std.specs.BTreeMap.{is_at}
use Rattle.std.specs.FinMap as map_of
use Rattle.position_core.specs.Position.{position_cmp}
use Rattle.position_core.specs.declared.position.Position.{Position}
use Rattle.position_core.specs.declared.held.Held.{Held}
use Rattle.pending_core.specs.declared.due.Slot.{Slot}
use Rattle.pending_core.specs.declared.kept.Kept.{Kept}
use Rattle.pending_core.specs.Pending.{Pending, most_count}

-- what is kept of a position
abbrev pub kept_at : List (Position × Kept) → Position → Option Kept
kept_at entries position = lookup (is_at (position_cmp position)) entries

-- the map with this value at the position, or without the position
abbrev pub with_value : {X : Type 0} → map_of.FinMap position_cmp X → Position → Option X → map_of.FinMap position_cmp X
with_value m position None = map_of.remove m position
with_value m position (Some x) = map_of.insert m position x

-- what f finds in what is kept, by position
abbrev pub found_in : {X : Type 0} → (Kept → Option X) → List (Position × Kept) → map_of.FinMap position_cmp X
found_in f [] = map_of.empty
found_in f (e ∷ es) = with_value (found_in f es) e.0 (f e.1)

-- a count of 0 is none
abbrev pub count_in : Kept → Option ℕ
count_in kept = if kept.count == 0 then None else Some kept.count

abbrev pub pending_in : List (Position × Kept) → Pending
pending_in entries = record { pending = found_in (λ kept. kept.held) entries; counts = found_in count_in entries }

abbrev pub slot_of : Position → Kept → Slot
slot_of position kept = record { position = position; due = option_and_then (λ held. held.due) kept.held }

abbrev pub held_until : ℕ → Kept → Option Held
held_until due kept = option_map (λ (held : Held). record held { due = Some due }) kept.held

abbrev pub counted_once_more : Kept → Kept
counted_once_more kept = if is_some kept.held then record kept { count = min (kept.count + 1) most_count } else kept

-- the same is kept, but for one position, of which now this is kept
abbrev pub ChangesAt : Position → Option Kept → List (Position × Kept) → List (Position × Kept) → Type 0
ChangesAt position kept old new = (other : Position) → kept_at new other ≡ (if is_at (position_cmp position) other then kept else kept_at old other)

-- nothing is counted where nothing was
abbrev pub MayCount : Bool → Pending → Type 0
MayCount is_counted s = is_counted ≡ false → s.counts ≡ map_of.empty

-- each position has its slot, each slot its position, and no count is beyond the last
pub record AreTied (entries : List (Position × Kept)) (slots : List Slot) : Type 0 where
  pub placed : (position : Position) (kept : Kept) → kept_at entries position ≡ Some kept → slice_get slots kept.slot ≡ Some (slot_of position kept)
  pub owned : (i : ℕ) (slot : Slot) → slice_get slots i ≡ Some slot → option_map (λ kept. kept.slot) (kept_at entries slot.position) ≡ Some i
  pub within : (position : Position) (kept : Kept) → kept_at entries position ≡ Some kept → kept.count ≤ most_count
