-- How many seats are a consumer's, after one was taken or left.
use Rattle.std.proofs.Common.{◌≡◌, ◌==◌, ℕ, ◌+◌, ◌-◌, List, [], ◌∷◌, Bool, true, false, cond, ◌||◌, refl, sym, ap, ◌∙◌, arith}
use Rattle.std.specs.List.{count_by, list_any}
use Rattle.std.specs.Ordering.{nat_cmp, is_eq, match_ordering}
use Rattle.std.specs.declared.cmp.Ordering.TheVariants.{Less, Equal, Greater}
use Rattle.std.specs.Cmp.{IsTotalOrder, Equal-is, nat_cmp_total, unsigned_tied}
use Rattle.std.specs.BTreeMap.{is_at}
use Rattle.std.specs.BTreeSet.{BTreeSet, contains, insert_key}
use Rattle.std.specs.Set.{remove_key}
use Rattle.std.proofs.lemmas.Bool.{false≢true}
use Rattle.std.proofs.lemmas.Cmp.{on_total, then_total}
use Rattle.std.proofs.lemmas.List.Sums.{sum_by-cons}
use Rattle.std.proofs.lemmas.Map.Lookups.{CmpEqualImpliesEq, exact_pairs, exact_unsigned}
use Rattle.position_core.specs.Position.{position_cmp, positions_total, exact_positions}
use Rattle.position_core.specs.declared.position.Position.{Position}
use Rattle.delivery_machine.proofs.Deciding.{number_is}
use Rattle.pending_core.specs.declared.seats.Seat.{Seat}
use Rattle.pending_core.specs.Counts.{number_at, NumberChanges}
use Rattle.pending_core.specs.Seats.{seat_cmp, seat_of, seats_at, AreCounted}

pub seats_total : IsTotalOrder seat_cmp
seats_total = then_total (on_total (λ s. s.consumer) nat_cmp_total) (on_total (λ s. s.position) positions_total)

pub exact_seats : CmpEqualImpliesEq seat_cmp
exact_seats a b h = ap (λ (p : ℕ × Position). seat_of p.0 p.1) (exact_pairs nat_cmp position_cmp exact_unsigned exact_positions (a.consumer, a.position) (b.consumer, b.position) h)

module _ (f : Seat → Bool) (s : Seat) where
  abbrev one : Seat → ℕ
  one x = cond (f x) 1 0

  count-insert_key : (ks : List Seat) → list_any (is_at (seat_cmp s)) ks ≡ false → count_by f (insert_key seat_cmp ks s) ≡ count_by f ks + one s
  count-insert_key [] h = sum_by-cons one s [] ∙ omega arith
  count-insert_key (x ∷ ks) h =
      elim (seat_cmp s x) as (λ o. (is_eq o || list_any (is_at (seat_cmp s)) ks) ≡ false → count_by f (match_ordering o (s ∷ x ∷ ks) (x ∷ ks) (x ∷ insert_key seat_cmp ks s)) ≡ count_by f (x ∷ ks) + one s) [
        | Less ↦ λ _. sum_by-cons one s (x ∷ ks) ∙ omega arith
        | Equal ↦ λ e. absurd (false≢true (sym e))
        | Greater ↦ λ e. sum_by-cons one x (insert_key seat_cmp ks s) ∙ ap (λ n. one x + n) (count-insert_key ks e) ∙ (let at = sum_by-cons one x ks in omega arith)
      ] h

  count-remove_key : (ks : List Seat) → list_any (is_at (seat_cmp s)) ks ≡ true → count_by f (remove_key (is_at (seat_cmp s)) ks) + one s ≡ count_by f ks
  count-remove_key [] h = absurd (false≢true h)
  count-remove_key (x ∷ ks) h =
      elim (is_at (seat_cmp s) x) as (λ b. is_at (seat_cmp s) x ≡ b → (b || list_any (is_at (seat_cmp s)) ks) ≡ true → count_by f (cond b ks (x ∷ remove_key (is_at (seat_cmp s)) ks)) + one s ≡ count_by f (x ∷ ks)) [
        | true ↦ λ here _. ap (λ y. count_by f ks + one y) (exact_seats s x ((Equal-is (seat_cmp s x)).0 here)) ∙ (let at = sum_by-cons one x ks in omega arith)
        | false ↦ λ _ e. let rest = count-remove_key ks e in let at = sum_by-cons one x ks in let left = sum_by-cons one x (remove_key (is_at (seat_cmp s)) ks) in omega arith
      ] refl h

pub same_consumer : (a b : ℕ) → is_at (nat_cmp a) b ≡ (a == b)
same_consumer a b = unsigned_tied a b

module _ (seats new : BTreeSet Seat) (numbers changed : List (ℕ × ℕ)) (s : Seat) (counted : AreCounted seats numbers) where
  here : (other : ℕ) → (s.consumer == other) ≡ true → number_at numbers s.consumer ≡ seats_at seats other
  here other e = ap (number_at numbers) (number_is s.consumer other e) ∙ counted other

  pub counted_taken : contains seat_cmp seats s ≡ false → new.keys ≡ insert_key seat_cmp seats.keys s → NumberChanges s.consumer (number_at numbers s.consumer + 1) numbers changed → AreCounted new changed
  counted_taken free is change other = change other ∙ by_test (s.consumer == other) refl
    where
      more : (b : Bool) → (s.consumer == other) ≡ b → seats_at new other ≡ seats_at seats other + cond b 1 0
      more b e = ap (count_by (λ x. x.consumer == other)) is ∙ count-insert_key (λ x. x.consumer == other) s seats.keys free ∙ ap (λ t. seats_at seats other + cond t 1 0) e

      by_test : (b : Bool) → (s.consumer == other) ≡ b → cond b (number_at numbers s.consumer + 1) (number_at numbers other) ≡ seats_at new other
      by_test true e = let was = here other e in let now = more true e in omega arith
      by_test false e = let was = counted other in let now = more false e in omega arith

  pub counted_left : contains seat_cmp seats s ≡ true → new.keys ≡ remove_key (is_at (seat_cmp s)) seats.keys → NumberChanges s.consumer (number_at numbers s.consumer - 1) numbers changed → AreCounted new changed
  counted_left taken is change other = change other ∙ by_test (s.consumer == other) refl
    where
      less : (b : Bool) → (s.consumer == other) ≡ b → seats_at new other + cond b 1 0 ≡ seats_at seats other
      less b e = ap (λ ks. count_by (λ x. x.consumer == other) ks + cond b 1 0) is ∙ ap (λ t. count_by (λ x. x.consumer == other) (remove_key (is_at (seat_cmp s)) seats.keys) + cond t 1 0) (sym e) ∙ count-remove_key (λ x. x.consumer == other) s seats.keys taken

      by_test : (b : Bool) → (s.consumer == other) ≡ b → cond b (number_at numbers s.consumer - 1) (number_at numbers other) ≡ seats_at new other
      by_test true e = let was = here other e in let now = less true e in omega arith
      by_test false e = let was = counted other in let now = less false e in omega arith
