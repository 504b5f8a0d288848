-- Sets of numbers as bits of words.
use Rattle.std.specs.Prelude.{◌≡◌, ◌==◌, ℕ, zero, suc, ◌/◌, ◌%◌, ◌*◌, ◌≤◌, ◌<◌, Bool, true, false, not, List, [], ◌∷◌, length, slice_index}
use Rattle.std.specs.List.{filter}
use Rattle.std.specs.Ordering.{nat_cmp}
use Rattle.std.specs.FinSet as set
use Rattle.std.specs.Int.{bit_at}

-- the bit of the number is set, in the word that has it; past the end none is
unfoldable pub has : List ℕ → ℕ → Bool
has words i = bit_at (slice_index words (i / 64)) (i % 64) == 1

-- the word has a bit that is set
unfoldable pub is_used : List ℕ → ℕ → Bool
is_used words w = not (slice_index words w == 0)

-- i is the least number of its word from `from` on
pub record IsNextInWord (words : List ℕ) (from i : ℕ) : Type 0 where
  pub after : from ≤ i
  pub word : i / 64 ≡ from / 64
  pub is_in : has words i ≡ true
  pub least : (k : ℕ) → from ≤ k → k < i → has words k ≡ false

-- the word of `from` has no number from there on
abbrev pub NoneInWord : List ℕ → ℕ → Type 0
NoneInWord words from = (k : ℕ) → from ≤ k → k / 64 ≡ from / 64 → has words k ≡ false

-- the numbers below n, the greatest first
abbrev pub down_from : ℕ → List ℕ
down_from zero = []
down_from (suc n) = n ∷ down_from n

-- the numbers whose bits are set
unfoldable pub set_of : List ℕ → set.FinSet nat_cmp
set_of words = set.from_list (filter (has words) (down_from (64 * length words)))
