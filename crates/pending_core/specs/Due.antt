-- When slots are due, and which of them first.
use Rattle.std.specs.Prelude.{◌≡◌, ℕ, List, Option, Some, None}
use Rattle.std.specs.List.{slice_get}
use Rattle.std.specs.Option.{option_map, option_and_then}
use Rattle.std.specs.Ordering.{nat_cmp, ordering_then, ord_min}
use Rattle.std.specs.BTreeMap.Range.{IsLeBy}
use Rattle.std.specs.declared.cmp.Ordering.{Ordering}
use Rattle.position_core.specs.Position.{position_cmp}
use Rattle.pending_core.specs.declared.due.Due.{Due}
use Rattle.pending_core.specs.declared.due.Slot.{Slot}

-- by the moments, and by the positions where these are the same
abbrev pub due_cmp : Due → Due → Ordering
due_cmp a b = ordering_then (nat_cmp a.moment b.moment) (position_cmp a.position b.position)

-- when a slot is due, if it has a moment
abbrev pub due_of : Slot → Option Due
due_of slot = option_map (λ moment. record { moment = moment; position = slot.position }) slot.due

-- when the slot i is due, if there is one and it has a moment
abbrev pub due_at : List Slot → ℕ → Option Due
due_at slots i = option_and_then due_of (slice_get slots i)

-- one that is due, and no other is before it; or none is due
abbrev pub IsFirst : (ℕ → Option Due) → Option Due → Type 0
IsFirst dues None = (i : ℕ) → dues i ≡ None
IsFirst dues (Some first) = ((i : ℕ) × (dues i ≡ Some first)) × ((i : ℕ) (other : Due) → dues i ≡ Some other → IsLeBy due_cmp first other)

-- the earlier of two, where there are any
abbrev pub earlier : Option Due → Option Due → Option Due
earlier None b = b
earlier (Some a) None = Some a
earlier (Some a) (Some b) = Some (ord_min due_cmp a b)
