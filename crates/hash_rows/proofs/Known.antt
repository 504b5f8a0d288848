-- What a row knows, from its parts.
use Rattle.std.proofs.Common.{◌≡◌, ℕ, ◌<◌, ◌≤◌, false, List, [], ◌∷◌, ◌++◌, length, get_or, ap, ◌∙◌, arith}
use Rattle.std.specs.Prelude.{nat_lt}
use Rattle.std.specs.Ordering.{nat_cmp}
use Rattle.std.specs.FinSet as set
use Rattle.hash_rows.specs.Ranks.{rank_of}
use Rattle.hash_rows.specs.Rows.{waits_in, holds_in, KnowsAsMuch, HasOneMore}
use Rattle.hash_rows.specs.declared.row.Row.{Row}
use Rattle.hash_rows.proofs.Marks.{one_more_in, one_more_marked, others_marked}

pub knows_as_much : (row other : Row) → other.places.items ≡ row.places.items → other.waiting.places ≡ row.waiting.places → other.held.places ≡ row.held.places → other.keeper ≡ row.keeper → KnowsAsMuch row other
unfolding waits_in holds_in
knows_as_much row other items waiting held keeper = record {
  places = λ i. ap (λ (xs : List ℕ). nat_lt (rank_of xs i) (length xs)) items;
  waits = λ i. ap (λ (xs : List ℕ). set.contains other.waiting.places (rank_of xs i)) items ∙ ap (λ (s : set.FinSet nat_cmp). set.contains s (rank_of row.places.items i)) waiting;
  holds = λ i. ap (λ (xs : List ℕ). set.contains other.held.places (rank_of xs i)) items ∙ ap (λ (s : set.FinSet nat_cmp). set.contains s (rank_of row.places.items i)) held;
  keeper = keeper;
}

pub has_one_more : (row other : Row) (index : ℕ) → ((r : ℕ) → r < length row.places.items → get_or row.places.items r 0 < index) → other.places.items ≡ row.places.items ++ index ∷ [] → other.waiting.places ≡ set.insert row.waiting.places (length row.places.items) → other.held.places ≡ row.held.places → other.keeper ≡ row.keeper → HasOneMore index row other
unfolding waits_in holds_in
has_one_more row other index above items waiting held keeper = record {
  places = λ i. ap (λ (xs : List ℕ). nat_lt (rank_of xs i) (length xs)) items ∙ one_more_in row.places.items index above i;
  waits = λ i. ap (λ (xs : List ℕ). set.contains other.waiting.places (rank_of xs i)) items ∙ one_more_marked row.places.items index above row.waiting.places other.waiting.places row.waiting_ranks waiting i;
  holds = λ i. ap (λ (xs : List ℕ). set.contains other.held.places (rank_of xs i)) items ∙ others_marked row.places.items index above row.held.places other.held.places row.held_ranks held i;
  keeper = keeper;
}

pub nothing_held : (row : Row) → ((r : ℕ) → 0 ≤ r → set.contains row.held.places r ≡ false) → (i : ℕ) → holds_in row i ≡ false
unfolding holds_in
nothing_held row none i = none (rank_of row.places.items i) (omega arith)
