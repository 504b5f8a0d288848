-- The messages of a row from a base on.
use Rattle.std.proofs.Common.{◌≡◌, ℕ, ◌+◌, ◌-◌, ◌<◌, ◌≤◌, true, false, List, length, get_or, Some, Ok, Err, inl, inr, sym, ap, ◌∙◌, subst, arith}
use Rattle.std.specs.Prelude.{nat_lt}
use Rattle.std.specs.List.Sorted.{IsBinarySearchResult}
use Rattle.std.specs.Ordering.{nat_cmp}
use Rattle.std.specs.FinSet as set
use Rattle.std.proofs.lemmas.List.Sorted.{searched}
use Rattle.std.proofs.lemmas.Bool.{cases_lt, ltb-true, false_from_ne_true}
use Rattle.number_sets.specs.Places.{IsNext, NoneFrom}
use Rattle.delivery_machine.specs.State.{State, Subscription}
use Rattle.dispatch_core.specs.Log.{holder_at}
use Rattle.hash_rows.specs.Ranks.{rank_of, Rises, AreRanksOf, IsStart}
use Rattle.hash_rows.specs.Rows.{holds_in, AreAllAt}
use Rattle.hash_rows.specs.declared.row.Row.{Row}
use Rattle.hash_rows.proofs.Ranks.{at_rank}
use Rattle.hash_rows.proofs.Marks.{searchable, not_above, marked_at}

pub found_start : (xs ys : List ℕ) (base k : ℕ) → ys ≡ xs → Rises xs → IsBinarySearchResult (λ y. nat_cmp y base) ys (Ok k) → IsStart xs base k
found_start xs ys base k same rises found =
    let at = searched xs base (Ok k) (subst (λ (zs : List ℕ). IsBinarySearchResult (λ y. nat_cmp y base) zs (Ok k)) same found) (searchable xs rises) in
    record {
      within = omega (arith, at.0);
      before = λ r low. omega (arith, rises r k low at.0, at.1);
      behind = λ r far inside. omega (arith, not_above xs k r rises far inside, at.1);
    }

pub missed_start : (xs ys : List ℕ) (base k : ℕ) → ys ≡ xs → Rises xs → IsBinarySearchResult (λ y. nat_cmp y base) ys (Err k) → IsStart xs base k
missed_start xs ys base k same rises missed =
    let at = searched xs base (Err k) (subst (λ (zs : List ℕ). IsBinarySearchResult (λ y. nat_cmp y base) zs (Err k)) same missed) (searchable xs rises) in
    record {
      within = at.0;
      before = at.1;
      behind = λ r far inside. omega (arith, at.2 r far inside);
    }

module _ (base k : ℕ) (xs : List ℕ) (start : IsStart xs base k) where
  pub behind : (i : ℕ) → k ≤ rank_of xs (base + i)
  behind i = elim (cases_lt (rank_of xs (base + i)) k) [
    | inl low ↦ absurd (omega (arith, start.before (rank_of xs (base + i)) low, at_rank xs (base + i) (omega (arith, low, start.within))))
    | inr far ↦ far
  ]

  -- the number at a rank, from the base on
  pub from_base : (r : ℕ) → k ≤ r → r < length xs → base + (get_or xs r 0 - base) ≡ get_or xs r 0
  from_base r far inside = omega (arith, start.behind r far inside)

  pub marked_from : (ranks : set.FinSet nat_cmp) (r : ℕ) → Rises xs → k ≤ r → r < length xs → set.contains ranks (rank_of xs (base + (get_or xs r 0 - base))) ≡ set.contains ranks r
  marked_from ranks r rises far inside =
      ap (λ (p : ℕ). set.contains ranks (rank_of xs p)) (from_base r far inside) ∙ marked_at xs ranks r rises inside

  pub first_from : (ranks : set.FinSet nat_cmp) (r : ℕ) → Rises xs → AreRanksOf xs ranks → IsNext (set.contains ranks) k r → IsNext (λ i. set.contains ranks (rank_of xs (base + i))) 0 (get_or xs r 0 - base)
  first_from ranks r rises within next = record {
    after = omega arith;
    is_in = marked_from ranks r rises next.after (within r next.is_in) ∙ next.is_in;
    least = λ i _ is.
        let inside = within (rank_of xs (base + i)) is in
        omega (arith, not_above xs r (rank_of xs (base + i)) rises (next.least (rank_of xs (base + i)) (behind i) is) inside, at_rank xs (base + i) inside);
  }

  pub none_from : (ranks : set.FinSet nat_cmp) → NoneFrom (set.contains ranks) k → (i : ℕ) → set.contains ranks (rank_of xs (base + i)) ≡ false
  none_from ranks none i = none (rank_of xs (base + i)) (behind i)

-- none of the numbers is as far
pub none_as_far : (xs : List ℕ) (base : ℕ) → ((r : ℕ) → r < length xs → get_or xs r 0 < base) → (i : ℕ) → nat_lt (rank_of xs (base + i)) (length xs) ≡ false
none_as_far xs base all i = false_from_ne_true _ (λ is.
    let inside = ltb-true (rank_of xs (base + i)) (length xs) is in
    omega (arith, all (rank_of xs (base + i)) inside, at_rank xs (base + i) inside))

-- ---- what is pending from the base on

module _ (row : Row) (base k : ℕ) (start : IsStart row.places.items base k) where
  pub held_from : (r : ℕ) → IsNext (set.contains row.held.places) k r → holds_in row (base + (get_or row.places.items r 0 - base)) ≡ true
  unfolding holds_in
  held_from r next = (first_from base k row.places.items start row.held.places r row.rises row.held_ranks next).is_in

  pub nothing_from : NoneFrom (set.contains row.held.places) k → (i : ℕ) → holds_in row (base + i) ≡ false
  unfolding holds_in
  nothing_from none i = none_from base k row.places.items start row.held.places none i

  pub all_from : (s : State) (sub : Subscription) (owner : ℕ) → ((r : ℕ) → k ≤ r → set.contains row.held.places r ≡ true → holder_at s sub (get_or row.places.items r 0 - base) ≡ Some owner) → AreAllAt row base s sub owner
  unfolding holds_in
  all_from s sub owner each i is =
      let far = behind base k row.places.items start i in
      let here : get_or row.places.items (rank_of row.places.items (base + i)) 0 - base ≡ i = omega (arith, at_rank row.places.items (base + i) (row.held_ranks _ is)) in
      ap (holder_at s sub) (sym here) ∙ each (rank_of row.places.items (base + i)) far is

  pub held_at_rank : (r : ℕ) → k ≤ r → set.contains row.held.places r ≡ true → holds_in row (base + (get_or row.places.items r 0 - base)) ≡ true
  unfolding holds_in
  held_at_rank r far is = marked_from base k row.places.items start row.held.places r row.rises far (row.held_ranks r is) ∙ is
