-- A tree in a row: below the node k stand the nodes 2k and 2k + 1, and the 256 leaves at the end.
use Rattle.std.specs.Prelude.{◌≡◌, ℕ, ◌+◌, ◌-◌, ◌*◌, ◌/◌, ◌<◌, ◌≤◌, nat_lt, ◌≢◌, List, Option, Some, None, if◌then◌else◌}
use Rattle.std.specs.List.{slice_index_or}
use Rattle.number_sets.specs.declared.node.Node.{Node}

-- the number that stands for none
abbrev pub none_yet : ℕ
none_yet = 4294967295

abbrev pub nothing : Node
nothing = record { number = none_yet; hash = 0 }

-- the number of a node, where it has one
abbrev pub number_of : Node → Option ℕ
number_of node = if nat_lt node.number none_yet then Some node.number else None

-- the number of a node and its hash, where it has one
abbrev pub found_of : Node → Option (ℕ × ℕ)
found_of node = if nat_lt node.number none_yet then Some (node.number, node.hash) else None

-- the one of two that has the lesser number
abbrev pub better : Node → Node → Node
better a b = if nat_lt b.number a.number then b else a

-- its number, where it has one, less by n
abbrev pub lowered : ℕ → Node → Node
lowered n node = if nat_lt node.number none_yet then record node { number = node.number - n } else node

-- its number, where it has one, is no less than n
abbrev pub IsNotBelow : ℕ → Node → Type 0
IsNotBelow n node = node.number < none_yet → n ≤ node.number

-- the node at a place of the row, and nothing past its end
abbrev pub node_at : List Node → ℕ → Node
node_at nodes k = slice_index_or nodes k nothing

abbrev pub leaf_at : List Node → ℕ → Node
leaf_at nodes k = node_at nodes (256 + k)

-- a node has the better of those below it
abbrev pub IsRightAt : List Node → ℕ → Type 0
IsRightAt nodes k = node_at nodes k ≡ better (node_at nodes (2 * k)) (node_at nodes (2 * k + 1))

-- each node above the leaves has the better of those below it
abbrev pub IsRight : List Node → Type 0
IsRight nodes = (k : ℕ) → 0 < k → k < 256 → IsRightAt nodes k

-- each but for the one above this
abbrev pub IsRightBut : ℕ → List Node → Type 0
IsRightBut at nodes = (k : ℕ) → 0 < k → k < 256 → k ≢ at / 2 → IsRightAt nodes k

-- no node of the range has a lesser number, and it is one of them if it has a number
pub record IsLeastOf (f : ℕ → Node) (from end : ℕ) (least : Node) : Type 0 where
  pub below : (k : ℕ) → from ≤ k → k < end → least.number ≤ (f k).number
  pub found : least.number < none_yet → (k : ℕ) × (from ≤ k) × (k < end) × (f k ≡ least)
