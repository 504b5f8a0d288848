-- A count that is searched for by halving.
use Rattle.std.proofs.Common.{◌≡◌, ℕ, ◌<◌, ◌≤◌, List, [], ◌∷◌, map, length, get_or, true, false, Some, None, inl, inr, refl, ap, ◌∙◌, sym, subst, arith}
use Rattle.std.specs.List.{HoldsAt, find}
use Rattle.std.specs.List.Sorted.{IsNonDecreasingBy, IsPartitionPoint, IsStrictlySortedBy}
use Rattle.std.specs.Ordering.{is_eq, ordering_index, ordering_reverse}
use Rattle.std.specs.declared.cmp.Ordering.{Ordering}
use Rattle.std.specs.declared.cmp.Ordering.TheVariants.{Less, Equal, Greater}
use Rattle.std.proofs.lemmas.Bool.{cases_lt}
use Rattle.std.proofs.lemmas.List.{length-map}
use Rattle.std.proofs.lemmas.List.Recursion.{found_at, found_nowhere}
use Rattle.std.proofs.lemmas.Map.Keys.{Less-from_sorted}
use Rattle.std.proofs.Math.ListN.{get_or-map}
use Rattle.position_core.specs.declared.position.Position.{Position}
use Rattle.position_core.specs.Position.{exact_positions, position_cmp, positions_total, same_position}
use Rattle.delivery_machine.specs.declared.counts.Counted.{Counted}
use Rattle.delivery_machine.proofs.Messages.{position_itself}
use Rattle.session_links.proofs.Times.{is_of}

abbrev AreRising : List Counted → Type 0
AreRising xs = IsStrictlySortedBy position_cmp (map (λ (x : Counted). x.position) xs)

ordered : (xs : List Counted) (i j : ℕ) (d : Counted) → AreRising xs → i < j → j < length xs → position_cmp (get_or xs i d).position (get_or xs j d).position ≡ Less
ordered xs i j d rising low within =
    let f : Counted → Position = λ x. x.position in
    let keys : List Position = map f xs in
    let a : get_or keys i d.position ≡ (get_or xs i d).position = get_or-map f xs i d in
    let b : get_or keys j d.position ≡ (get_or xs j d).position = get_or-map f xs j d in
    let less : position_cmp (get_or keys i d.position) (get_or keys j d.position) ≡ Less = Less-from_sorted position_cmp keys i j d.position rising low (omega (arith, within, length-map xs f)) in
    sym (ap (λ (p : Position). position_cmp p (get_or keys j d.position)) a ∙ ap (λ (p : Position). position_cmp (get_or xs i d).position p) b) ∙ less

-- what is before the position, or after it, is another
before_it : (p q : Position) → position_cmp q p ≡ Less → same_position p q ≡ false
before_it p q e = ap is_eq (positions_total.antisymm p q ∙ ap (λ (o : Ordering). ordering_reverse o) e)

after_it : (p q : Position) → position_cmp q p ≡ Greater → same_position p q ≡ false
after_it p q e = ap is_eq (positions_total.antisymm p q ∙ ap (λ (o : Ordering). ordering_reverse o) e)

most : (o : Ordering) → ordering_index o ≤ 2
most Less = omega arith
most Equal = omega arith
most Greater = omega arith

below : (a b p : Position) (o : Ordering) → position_cmp b p ≡ o → position_cmp a b ≡ Less → ordering_index (position_cmp a p) ≤ ordering_index (position_cmp b p)
below a b p Less is less = omega (arith, ap ordering_index (positions_total.trans a b p less is))
below a b p Equal is less =
    let same : b ≡ p = exact_positions b p is in
    omega (arith, ap ordering_index (subst (λ (q : Position). position_cmp a q ≡ Less) same less))
below a b p Greater is less = omega (arith, ap ordering_index is, most (position_cmp a p))

-- the answers rise along the list
rising_answers : (xs : List Counted) (p : Position) → AreRising xs → IsNonDecreasingBy (λ (y : Counted). ordering_index (position_cmp y.position p)) xs
rising_answers xs p rising i j d le within = elim (cases_lt i j) [
  | inl low ↦ below (get_or xs i d).position (get_or xs j d).position p (position_cmp (get_or xs j d).position p) refl (ordered xs i j d rising low within)
  | inr high ↦
      let same : i ≡ j = omega (arith, le, high) in
      omega (arith, ap (λ (k : ℕ). ordering_index (position_cmp (get_or xs k d).position p)) same)
]

pub found_by_search : (xs : List Counted) (p : Position) (i : ℕ) (x : Counted) → AreRising xs → HoldsAt (λ (y : Counted). position_cmp y.position p ≡ Equal) xs i → i < length xs → x ≡ get_or xs i x
    → Some x ≡ find (is_of p) xs
found_by_search xs p i x rising holds within is = sym (found_at (find (is_of p)) (is_of p) Some None refl (λ _ _. refl) xs i x within before here ∙ ap Some (sym is))
  where
    there : (get_or xs i x).position ≡ p
    there = exact_positions (get_or xs i x).position p (holds x)

    here : is_of p (get_or xs i x) ≡ true
    here = ap (same_position p) there ∙ position_itself p

    before : (k : ℕ) → k < i → is_of p (get_or xs k x) ≡ false
    before k low = before_it p (get_or xs k x).position (subst (λ (q : Position). position_cmp (get_or xs k x).position q ≡ Less) there (ordered xs k i x rising low within))

pub not_by_search : (xs : List Counted) (p : Position) (i : ℕ) → AreRising xs
    → (IsNonDecreasingBy (λ (y : Counted). ordering_index (position_cmp y.position p)) xs → IsPartitionPoint (λ (y : Counted). position_cmp y.position p ≡ Less) (λ (y : Counted). position_cmp y.position p ≡ Greater) xs i)
    → find (is_of p) xs ≡ None
not_by_search [] p i rising parted = refl
not_by_search (x ∷ xs) p i rising parted = found_nowhere (find (is_of p)) (is_of p) Some None refl (λ _ _. refl) (x ∷ xs) x other
  where
    parts : IsPartitionPoint (λ (y : Counted). position_cmp y.position p ≡ Less) (λ (y : Counted). position_cmp y.position p ≡ Greater) (x ∷ xs) i
    parts = parted (rising_answers (x ∷ xs) p rising)

    other : (k : ℕ) → k < length (x ∷ xs) → is_of p (get_or (x ∷ xs) k x) ≡ false
    other k within = elim (cases_lt k i) [
      | inl low ↦ before_it p (get_or (x ∷ xs) k x).position (parts.0 k x (omega arith) low)
      | inr high ↦ after_it p (get_or (x ∷ xs) k x).position (parts.1 k x high within)
    ]
