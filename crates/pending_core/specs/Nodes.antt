-- The slots as a tree: below the node k stand the nodes 2k + 1 and 2k + 2.
use Rattle.std.specs.Prelude.{◌≡◌, ◌≢◌, ℕ, ◌+◌, ◌*◌, List, map, Option}
use Rattle.std.specs.List.{slice_get}
use Rattle.std.specs.Option.{option_and_then}
use Rattle.pending_core.specs.declared.due.Due.{Due}
use Rattle.pending_core.specs.declared.due.Slot.{Slot}
use Rattle.pending_core.specs.declared.node.Node.{Node}
use Rattle.pending_core.specs.Due.{due_at, earlier}

abbrev pub slots_of : List Node → List Slot
slots_of nodes = map (λ node. node.slot) nodes

-- what the node k has for the first of its slot and of those below it
abbrev pub first_at : List Node → ℕ → Option Due
first_at nodes k = option_and_then (λ node. node.first) (slice_get nodes k)

-- what the node k is to have: the first of when its slot is due and of what the nodes below it have
abbrev pub first_from : (ℕ → Option Due) → (ℕ → Option Due) → ℕ → Option Due
first_from dues firsts k = earlier (dues k) (earlier (firsts (2 * k + 1)) (firsts (2 * k + 2)))

-- each node has the first, but for the one at this place
abbrev pub IsRightBut : ℕ → List Node → Type 0
IsRightBut at nodes = (k : ℕ) → k ≢ at → first_at nodes k ≡ first_from (due_at (slots_of nodes)) (first_at nodes) k

-- each node has the first
abbrev pub IsRight : List Node → Type 0
IsRight nodes = (k : ℕ) → first_at nodes k ≡ first_from (due_at (slots_of nodes)) (first_at nodes) k
