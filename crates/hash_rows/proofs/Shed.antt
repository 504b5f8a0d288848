-- A row whose first messages are let go.
use Rattle.std.proofs.Common.{◌≡◌, ◌≢◌, ℕ, zero, suc, ◌+◌, ◌-◌, ◌<◌, ◌≤◌, Bool, true, false, cond, List, [], ◌∷◌, length, get_or, take, drop, ◌++◌, inl, inr, refl, sym, ap, ◌∙◌, arith, length-drop}
use Rattle.std.specs.Prelude.{◌==◌, nat_lt}
use Rattle.std.specs.Ordering.{nat_cmp}
use Rattle.std.specs.FinSet as set
use Rattle.std.proofs.Math.Seq.{take-append_seam}
use Rattle.std.proofs.lemmas.List.{get_or-drop}
use Rattle.std.proofs.lemmas.Bool.{cases_eq, cases_lt, ne_eqb, eq-eqb, lt-ltb, le-ltb, false_from_ne_true}
use Rattle.number_sets.specs.Places.{IsNext, NoneFrom}
use Rattle.hash_rows.specs.Ranks.{rank_of, Rises, AreRanksOf, IsStart}
use Rattle.hash_rows.specs.Rows.{waits_in, holds_in, KnowsFrom}
use Rattle.hash_rows.specs.declared.row.Row.{Row}
use Rattle.hash_rows.proofs.Marks.{put_there, put_away}
use Rattle.hash_rows.proofs.From.{behind}

-- ---- ranks

pub rank_dropped : (k : ℕ) (xs : List ℕ) (i : ℕ) → k ≤ rank_of xs i → k + rank_of (drop k xs) i ≡ rank_of xs i
rank_dropped zero xs i far = omega arith
rank_dropped (suc k) [] i far = absurd (omega (arith, far))
rank_dropped (suc k) (x ∷ xs) i far = elim (cases_eq x i) [
  | inl is ↦ let here : rank_of (x ∷ xs) i ≡ 0 = ap (λ (b : Bool). cond b zero (suc (rank_of xs i))) (eq-eqb x i is) in absurd (omega (arith, far, here))
  | inr other ↦
      let here : rank_of (x ∷ xs) i ≡ suc (rank_of xs i) = ap (λ (b : Bool). cond b zero (suc (rank_of xs i))) (ne_eqb x i other) in
      omega (arith, here, rank_dropped k xs i (omega (arith, here, far)))
]

pub get_dropped : (k : ℕ) (xs : List ℕ) (j : ℕ) → get_or (drop k xs) j 0 ≡ get_or xs (k + j) 0
get_dropped k xs j = get_or-drop k xs j 0

pub rises_dropped : (k : ℕ) (xs : List ℕ) → Rises xs → Rises (drop k xs)
rises_dropped k xs rises i j order within =
    let far : k + j < length xs = omega (arith, within, length-drop k xs) in
    omega (arith, get_dropped k xs i, get_dropped k xs j, rises (k + i) (k + j) (omega (arith, order)) far)

pub ranks_dropped : (k : ℕ) (xs : List ℕ) (old new : set.FinSet nat_cmp) → AreRanksOf xs old → ((r : ℕ) → set.contains new r ≡ set.contains old (k + r)) → AreRanksOf (drop k xs) new
ranks_dropped k xs old new within are r is = omega (arith, within (k + r) (sym (are r) ∙ is), length-drop k xs)

-- what the rotated list has at its front
pub kept_of : (k : ℕ) (xs : List ℕ) (n : ℕ) → n + k ≡ length xs → take n (drop k xs ++ take k xs) ≡ drop k xs
kept_of k xs n is =
    ap (λ (m : ℕ). take m (drop k xs ++ take k xs)) (omega (arith, is, length-drop k xs)) ∙ take-append_seam (drop k xs) (take k xs)

-- ---- what is known from the base on

module _ (base k : ℕ) (xs : List ℕ) (start : IsStart xs base k) where
  pub in_still : (i : ℕ) → nat_lt (rank_of (drop k xs) (base + i)) (length (drop k xs)) ≡ nat_lt (rank_of xs (base + i)) (length xs)
  in_still i =
      let is = rank_dropped k xs (base + i) (behind base k xs start i) in
      elim (cases_lt (rank_of xs (base + i)) (length xs)) [
        | inl below ↦ lt-ltb _ _ (omega (arith, below, is, length-drop k xs, start.within)) ∙ sym (lt-ltb _ _ below)
        | inr past ↦ le-ltb _ _ (omega (arith, past, is, length-drop k xs, start.within)) ∙ sym (le-ltb _ _ past)
      ]

  pub marked_still : (old new : set.FinSet nat_cmp) → ((r : ℕ) → set.contains new r ≡ set.contains old (k + r)) → (i : ℕ) → set.contains new (rank_of (drop k xs) (base + i)) ≡ set.contains old (rank_of xs (base + i))
  marked_still old new are i = are (rank_of (drop k xs) (base + i)) ∙ ap (set.contains old) (rank_dropped k xs (base + i) (behind base k xs start i))

pub knows_from : (base k : ℕ) (row other : Row) → IsStart row.places.items base k → other.places.items ≡ drop k row.places.items → ((r : ℕ) → set.contains other.waiting.places r ≡ set.contains row.waiting.places (k + r)) → ((r : ℕ) → set.contains other.held.places r ≡ set.contains row.held.places (k + r)) → other.keeper ≡ row.keeper → KnowsFrom base row other
unfolding waits_in holds_in
knows_from base k row other start places waits holds keeper = record {
  places = λ i. ap (λ (xs : List ℕ). nat_lt (rank_of xs (base + i)) (length xs)) places ∙ in_still base k row.places.items start i;
  waits = λ i. ap (λ (xs : List ℕ). set.contains other.waiting.places (rank_of xs (base + i))) places ∙ marked_still base k row.places.items start row.waiting.places other.waiting.places waits i;
  holds = λ i. ap (λ (xs : List ℕ). set.contains other.held.places (rank_of xs (base + i))) places ∙ marked_still base k row.places.items start row.held.places other.held.places holds i;
  keeper = keeper;
}

pub knows_itself : (base : ℕ) (row : Row) → KnowsFrom base row row
knows_itself base row = record { places = λ _. refl; waits = λ _. refl; holds = λ _. refl; keeper = refl }

-- ---- ranks that move down one after another

-- up to `from` they were moved, and from there on they are as they were
pub record AreMoved (gone from : ℕ) (old now : ℕ → Bool) : Type 0 where
  pub moved : (r : ℕ) → gone + r < from → now r ≡ old (gone + r)
  pub between : (r : ℕ) → from ≤ gone + r → r < from → now r ≡ false
  pub behind : (r : ℕ) → from ≤ r → now r ≡ old r

pub none_moved : (gone : ℕ) (old : ℕ → Bool) → AreMoved gone 0 old old
none_moved gone old = record {
  moved = λ r low. absurd (omega (arith, low));
  between = λ r _ low. absurd (omega (arith, low));
  behind = λ _ _. refl;
}

pub one_moved : (gone from rank : ℕ) (old now then : ℕ → Bool) → IsNext now from rank → AreMoved gone from old now → ((r : ℕ) → then r ≡ cond (gone + r == rank) true (cond (r == rank) false (now r))) → AreMoved gone (rank + 1) old then
one_moved gone from rank old now then next are put = record {
  moved = λ r low. elim (cases_eq (gone + r) rank) [
    | inl here ↦ at_once r here ∙ sym (sym (are.behind (gone + r) (omega (arith, here, next.after))) ∙ ap now here ∙ next.is_in)
    | inr other ↦ aside r other (λ same. omega (arith, same, low, other)) ∙ elim (cases_lt (gone + r) from) [
      | inl before ↦ are.moved r before
      | inr past ↦
          let old_none : old (gone + r) ≡ false = sym (are.behind (gone + r) past) ∙ none (gone + r) past (omega (arith, low, other)) in
          elim (cases_lt r from) [
            | inl below ↦ are.between r past below ∙ sym old_none
            | inr on ↦ none r on (omega (arith, low, other)) ∙ sym old_none
          ]
    ]
  ];
  between = λ r past below. elim (cases_eq r rank) [
    | inl same ↦ elim (cases_eq (gone + r) rank) [
      | inl here ↦ absurd (omega (arith, here, past))
      | inr other ↦ put r ∙ ap (λ (b : Bool). cond b true (cond (r == rank) false (now r))) (ne_eqb (gone + r) rank other) ∙ ap (λ (b : Bool). cond b false (now r)) (eq-eqb r rank same)
    ]
    | inr apart ↦ aside r (λ here. omega (arith, here, past)) apart ∙ elim (cases_lt r from) [
      | inl low ↦ are.between r (omega (arith, past, next.after)) low
      | inr on ↦ none r on (omega (arith, below, apart))
    ]
  ];
  behind = λ r past. aside r (λ here. omega (arith, here, past)) (λ same. omega (arith, same, past)) ∙ are.behind r (omega (arith, past, next.after));
}
  where
    none : (r : ℕ) → from ≤ r → r < rank → now r ≡ false
    none r on low = false_from_ne_true (now r) (λ is. omega (arith, low, next.least r on is))

    at_once : (r : ℕ) → gone + r ≡ rank → then r ≡ true
    at_once r here = put r ∙ ap (λ (b : Bool). cond b true (cond (r == rank) false (now r))) (eq-eqb (gone + r) rank here)

    aside : (r : ℕ) → gone + r ≢ rank → r ≢ rank → then r ≡ now r
    aside r other apart =
        put r ∙ ap (λ (b : Bool). cond b true (cond (r == rank) false (now r))) (ne_eqb (gone + r) rank other)
        ∙ ap (λ (b : Bool). cond b false (now r)) (ne_eqb r rank apart)

pub all_moved : (gone from : ℕ) (old now : ℕ → Bool) → AreMoved gone from old now → NoneFrom now from → (r : ℕ) → now r ≡ old (gone + r)
all_moved gone from old now are none r = elim (cases_lt (gone + r) from) [
  | inl low ↦ are.moved r low
  | inr past ↦
      let old_none : old (gone + r) ≡ false = sym (are.behind (gone + r) past) ∙ none (gone + r) past in
      elim (cases_lt r from) [
        | inl below ↦ are.between r past below ∙ sym old_none
        | inr on ↦ none r on ∙ sym old_none
      ]
]

-- what is in, is below the end
pub moved_within : (gone from end : ℕ) (old now : ℕ → Bool) → AreMoved gone from old now → ((r : ℕ) → old r ≡ true → r < end) → (r : ℕ) → now r ≡ true → from ≤ r → r < end
moved_within gone from end old now are within r is on = within r (sym (are.behind r on) ∙ is)

-- ---- one rank

pub put_down : (s : set.FinSet nat_cmp) (gone rank : ℕ) → gone ≤ rank → (r : ℕ) → set.contains (set.insert (set.remove s rank) (rank - gone)) r ≡ cond (gone + r == rank) true (cond (r == rank) false (set.contains s r))
put_down s gone rank low r =
    put_there (set.remove s rank) (rank - gone) true refl r
    ∙ ap (λ (b : Bool). cond (r == rank - gone) true b) (put_away s rank false refl r)
    ∙ elim (cases_eq r (rank - gone)) [
      | inl is ↦
          ap (λ (b : Bool). cond b true (cond (r == rank) false (set.contains s r))) (eq-eqb r (rank - gone) is)
          ∙ sym (ap (λ (b : Bool). cond b true (cond (r == rank) false (set.contains s r))) (eq-eqb (gone + r) rank (omega (arith, is, low))))
      | inr other ↦
          ap (λ (b : Bool). cond b true (cond (r == rank) false (set.contains s r))) (ne_eqb r (rank - gone) other)
          ∙ sym (ap (λ (b : Bool). cond b true (cond (r == rank) false (set.contains s r))) (ne_eqb (gone + r) rank (λ is. omega (arith, is, other, low))))
    ]

pub put_out : (s : set.FinSet nat_cmp) (gone rank : ℕ) → rank < gone → (r : ℕ) → set.contains (set.remove s rank) r ≡ cond (gone + r == rank) true (cond (r == rank) false (set.contains s r))
put_out s gone rank high r =
    put_away s rank false refl r
    ∙ sym (ap (λ (b : Bool). cond b true (cond (r == rank) false (set.contains s r))) (ne_eqb (gone + r) rank (λ is. omega (arith, is, high))))
