-- The names that the topic makes of numbers: which are in use, and what is kept so that the search for a free one is short.
use Rattle.std.specs.Prelude.{◌≡◌, ℕ, ◌<◌, ◌==◌, Bool, true, false, ◌||◌, List, is_some}
use Rattle.std.specs.List.{list_any, find, All}
use Rattle.std.specs.List.Sorted.{IsStrictlySortedBy}
use Rattle.std.specs.Ordering.{nat_cmp}
use Rattle.std.specs.Str.{bytes_eq}
use Rattle.std.specs.FinMap as map_of
use Rattle.delivery_machine.specs.State.{Author, Producer}
use Rattle.delivery_machine.specs.Trimming.{is_author}
use Rattle.delivery_machine.specs.Producing.{auto_name}
use Rattle.dedup_core.specs.Sequences.{Numbers}

-- one of the producers has the name of the number
abbrev pub is_written : List Author → ℕ → Bool
is_written authors n = is_some (find (is_author (auto_name n)) authors)

-- the same, where the numbers agree with the producers
abbrev pub is_numbered : Numbers → ℕ → Bool
is_numbered numbers n = is_some (map_of.get numbers (auto_name n))

-- a producer of the name is connected, or wrote a message
abbrev pub is_taken : List Producer → Numbers → ℕ → Bool
is_taken producers numbers n = list_any (λ p. bytes_eq p.name (auto_name n)) producers || is_numbered numbers n

-- each number below the first is written, or one of the gaps, which rise
pub record AreGaps (written : ℕ → Bool) (first : ℕ) (gaps : List ℕ) : Type 0 where
  pub others : (k : ℕ) → k < first → list_any (λ g. g == k) gaps ≡ false → written k ≡ true
  pub rising : IsStrictlySortedBy nat_cmp gaps
  pub below : All (λ g. g < first) gaps
