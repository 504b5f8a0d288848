-- For each hash at most one number.
use Rattle.std.specs.Prelude.{◌≡◌, ℕ, zero, suc, ◌*◌, ◌/◌, ◌%◌, ◌<◌, ◌≤◌, true, Bool, false, List, length, Option, Some, None, refl, if◌then◌else◌}
use Rattle.std.specs.List.{slice_get}
use Rattle.std.specs.Option.{option_map_or}
use Rattle.std.specs.Coded.{Coded, code_by, coded×, coded_ℕ}
use Rattle.std.specs.Ordering.{nat_cmp}
use Rattle.std.specs.FinMap as map_of
use Rattle.std.specs.FinSet as set
use Rattle.number_sets.specs.declared.node.Node.{Node}
use Rattle.number_sets.specs.declared.tournament.Tournament.{Tournament}
use Rattle.number_sets.specs.Nodes.{nothing, none_yet, number_of, IsLeastOf}
use Rattle.number_sets.specs.Trees.{leaf_of, has_room}

-- the numbers by their hashes, and the hashes that have room for one
pub record Firsts : Type 0 where
  pub numbers : map_of.FinMap nat_cmp ℕ
  pub room : set.FinSet nat_cmp

abbrev pub firsts_code : Coded Firsts
firsts_code =
    code_by (map_of.FinMap nat_cmp ℕ × set.FinSet nat_cmp) (coded× (map_of.code coded_ℕ coded_ℕ) (set.code coded_ℕ)) (λ p. (p.numbers, p.room)) (λ p. record { numbers = p.0; room = p.1 }) (λ _. refl)

-- the number is the least of those of the hashes `from` up to but not `end`, and the hash has it
abbrev pub IsLeastIn : map_of.FinMap nat_cmp ℕ → ℕ → ℕ → (ℕ × ℕ) → Type 0
IsLeastIn numbers from end (number, hash) =
    (from ≤ hash) × (hash < end) × (map_of.get numbers hash ≡ Some number) × ((h n : ℕ) → from ≤ h → h < end → map_of.get numbers h ≡ Some n → number ≤ n)

-- no hash from `from` up to but not `end` has a number
abbrev pub NoneIn : map_of.FinMap nat_cmp ℕ → ℕ → ℕ → Type 0
NoneIn numbers from end = (h : ℕ) → from ≤ h → h < end → map_of.get numbers h ≡ None

-- the node at a leaf of a chunk, and nothing where there is no chunk
abbrev pub leaf_in : List Tournament → ℕ → ℕ → Node
leaf_in chunks c k = option_map_or (λ t. leaf_of t k) (slice_get chunks c) nothing

-- the node of a hash
abbrev pub first_at : List Tournament → ℕ → Node
first_at chunks hash = leaf_in chunks (hash / 256) (hash % 256)

abbrev pub number_at : List Tournament → ℕ → Option ℕ
number_at chunks hash = number_of (first_at chunks hash)

-- leaves can be put in the chunk
abbrev pub room_in : List Tournament → ℕ → Bool
room_in chunks c = option_map_or has_room (slice_get chunks c) false

abbrev pub room_at : List Tournament → ℕ → Bool
room_at chunks hash = room_in chunks (hash / 256)

-- the map with this number at the hash, or without the hash
abbrev pub with_number : map_of.FinMap nat_cmp ℕ → ℕ → Option ℕ → map_of.FinMap nat_cmp ℕ
with_number numbers hash None = map_of.remove numbers hash
with_number numbers hash (Some number) = map_of.insert numbers hash number

-- what f has for the hashes below n
unfoldable pub numbers_below : (ℕ → Option ℕ) → ℕ → map_of.FinMap nat_cmp ℕ
numbers_below f zero = map_of.empty
numbers_below f (suc n) = with_number (numbers_below f n) n (f n)

-- the hashes below n that pass
unfoldable pub hashes_below : (ℕ → Bool) → ℕ → set.FinSet nat_cmp
hashes_below p zero = set.empty
hashes_below p (suc n) = if p n then set.insert (hashes_below p n) n else hashes_below p n

unfoldable pub firsts_of : List Tournament → Firsts
firsts_of chunks = record {
  numbers = numbers_below (number_at chunks) (256 * length chunks);
  room = hashes_below (room_at chunks) (256 * length chunks);
}

-- the top has the least of each chunk, and each node its hash
pub record AreTied (chunks : List Tournament) (top : Tournament) : Type 0 where
  pub few : length chunks ≤ 256
  pub hashes : (hash : ℕ) → (first_at chunks hash).number < none_yet → (first_at chunks hash).hash ≡ hash
  pub least : (c : ℕ) → c < 256 → IsLeastOf (leaf_in chunks c) 0 256 (leaf_of top c)
  pub room : 0 < length chunks → has_room top ≡ true
