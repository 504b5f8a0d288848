-- The line once one left: who stays active there, and at which place.
use Rattle.std.proofs.Common.{◌≡◌, ◌≢◌, ℕ, suc, ◌+◌, ◌-◌, ◌<◌, ◌≤◌, ◌==◌, Bool, true, false, not, cond, List, ◌∷◌, ◌++◌, Option, Some, length, get_or, take, drop, inl, inr, refl, sym, ap, ◌∙◌, subst, arith}
use Rattle.std.specs.Prelude.{slice_get}
use Rattle.std.specs.List.{filter}
use Rattle.std.specs.Option.{option_map_or}
use Rattle.std.proofs.Math.Seq.{drop-cons, get_or-append_seam}
use Rattle.std.proofs.lemmas.Bool.{cases_lt, cases_eq, cases_order, eqb-true, eq-eqb, ne_eqb, false≢true}
use Rattle.std.proofs.lemmas.List.{length-append, length-take-le, take-append-drop, get_or-take, get_or_append_left}
use Rattle.std.proofs.lemmas.List.Elements.{All-filter, All-get_or, All-from_get_or, filter-append, filter_passes}
use Rattle.std.proofs.lemmas.List.Filters.{length-filter_both}
use Rattle.std.proofs.lemmas.List.Kept.{AllPairs-filter}
use Rattle.std.proofs.lemmas.Option.{slice_get-get_or, slice_get_cases, get_or_from_slice_get}
use Rattle.dispatch_single.specs.InOrder.{pair_of, comes_before, at, IsActiveAt, IsActive, NumbersDiffer, without}
use Rattle.dispatch_single.specs.declared.active.Active.{Active}

abbrev Differ : ℕ × ℕ → ℕ × ℕ → Type 0
Differ a b = a.0 ≢ b.0

pub differ-without : (left : ℕ) (line : List (ℕ × ℕ)) → NumbersDiffer line → NumbersDiffer (without left line)
differ-without left line differ = AllPairs-filter Differ (λ m. not (m.0 == left)) line differ

differ-take : (n : ℕ) (line : List (ℕ × ℕ)) → n ≤ length line → NumbersDiffer line → NumbersDiffer (take n line)
differ-take n line within differ i j d before below =
    let short = length-take-le n line within in
    subst (λ (a : ℕ × ℕ). Differ a (get_or (take n line) j d)) (sym (get_or-take n line i d (omega (arith, short, below, before))))
    (subst (λ (b : ℕ × ℕ). Differ (get_or line i d) b) (sym (get_or-take n line j d (omega (arith, short, below))))
    (differ i j d before (omega (arith, short, below, within))))

-- members of one number stand at one place
one_place : (line : List (ℕ × ℕ)) → NumbersDiffer line → (i j : ℕ) → i < length line → j < length line → (at line i).0 ≡ (at line j).0 → i ≡ j
one_place line differ i j i_within j_within same =
    elim (cases_order i j) [
      | inl equal ↦ equal
      | inr (inl before) ↦ absurd (differ i j (0, 0) before j_within same)
      | inr (inr after) ↦ absurd (differ j i (0, 0) after i_within (sym same))
    ]

module _ (left : ℕ) where
  abbrev leaves : ℕ × ℕ → Bool
  leaves m = m.0 == left

  leaves_once : (line : List (ℕ × ℕ)) → NumbersDiffer line → length (filter leaves line) ≤ 1
  leaves_once line differ =
      elim (cases_lt 1 (length (filter leaves line))) [
        | inl two ↦ absurd (AllPairs-filter Differ leaves line differ 0 1 (0, 0) (omega arith) two (number 0 (omega (arith, two)) ∙ sym (number 1 two)))
        | inr once ↦ once
      ]
    where
      number : (k : ℕ) → k < length (filter leaves line) → (at (filter leaves line) k).0 ≡ left
      number k below = eqb-true _ left (All-get_or (λ (m : ℕ × ℕ). leaves m ≡ true) (filter leaves line) k (0, 0) below (filter_passes leaves line))

  -- at most one leaves
  pub length-without : (line : List (ℕ × ℕ)) → NumbersDiffer line → (length (without left line) ≤ length line) × (length line ≤ length (without left line) + 1)
  length-without line differ =
      let both = length-filter_both leaves (λ m. not (leaves m)) (λ _. refl) line in
      let once = leaves_once line differ in
      (omega (arith, both), omega (arith, both, once))

  module _ (line : List (ℕ × ℕ)) (place : ℕ) (differ : NumbersDiffer line) (was : IsActiveAt line (length line) place) (other : (at line place).0 ≢ left) where
    abbrev active : ℕ × ℕ
    active = at line place

    abbrev front : List (ℕ × ℕ)
    front = without left (take place line)

    abbrev rest : List (ℕ × ℕ)
    rest = without left (drop (suc place) line)

    parts : without left line ≡ front ++ active ∷ rest
    parts =
        ap (without left) (sym (take-append-drop place line) ∙ ap (λ (xs : List (ℕ × ℕ)). take place line ++ xs) (drop-cons line place (0, 0) was.within))
        ∙ filter-append (λ m. not (leaves m)) (take place line) (active ∷ drop (suc place) line)
        ∙ ap (λ (b : Bool). front ++ cond (not b) (active ∷ rest) rest) (ne_eqb active.0 left other)

    at_front : at (without left line) (length front) ≡ active
    at_front = ap (λ (xs : List (ℕ × ℕ)). at xs (length front)) parts ∙ get_or-append_seam front active rest (0, 0)

    front_within : length front < length (without left line)
    front_within = omega (arith, ap length parts, length-append front (active ∷ rest))

    stays_active : IsActiveAt (without left line) (length (without left line)) (length front)
    stays_active = record {
      within = front_within;
      best = λ k below.
          ap (λ (y : ℕ × ℕ). comes_before (at (without left line) k) y) at_front
          ∙ All-get_or (λ (x : ℕ × ℕ). comes_before x active ≡ false) (without left line) k (0, 0) below
          (All-filter (λ m. not (leaves m)) (λ (x : ℕ × ℕ). comes_before x active ≡ false) line
          (All-from_get_or (λ (x : ℕ × ℕ). comes_before x active ≡ false) line (0, 0) was.best));
      first = λ k before.
          ap (λ (y : ℕ × ℕ). comes_before y (at (without left line) k)) at_front
          ∙ ap (comes_before active) (ap (λ (xs : List (ℕ × ℕ)). at xs k) parts ∙ get_or_append_left front (active ∷ rest) (0, 0) k before)
          ∙ All-get_or (λ (x : ℕ × ℕ). comes_before active x ≡ true) front k (0, 0) before
          (All-filter (λ m. not (leaves m)) (λ (x : ℕ × ℕ). comes_before active x ≡ true) (take place line)
          (All-from_get_or (λ (x : ℕ × ℕ). comes_before active x ≡ true) (take place line) (0, 0) (λ i below.
          let within : i < place = omega (arith, below, length-take-le place line (omega (arith, was.within))) in
          ap (comes_before active) (get_or-take place line i (0, 0) within) ∙ was.first i within)));
    }

    front_near : (length front ≤ place) × (place ≤ length front + 1)
    front_near =
        let within : place ≤ length line = omega (arith, was.within) in
        let near = length-without (take place line) (differ-take place line within differ) in
        let short = length-take-le place line within in
        (omega (arith, near.0, short), omega (arith, near.1, short))

    stands_at_front : slice_get (without left line) (length front) ≡ Some active
    stands_at_front = slice_get-get_or (without left line) (length front) (0, 0) front_within ∙ ap Some at_front

abbrev pub stands_there : List (ℕ × ℕ) → Active → Bool
stands_there line m = option_map_or (λ other. other.0 == m.consumer) (slice_get line m.place) false

module _ (left : ℕ) (line : List (ℕ × ℕ)) (m : Active) (differ : NumbersDiffer line) (other : m.consumer ≢ left) (was : IsActive line (Some m)) where
  is_m : at line m.place ≡ pair_of m
  is_m = get_or_from_slice_get line m.place (pair_of m) (0, 0) was.1

  apart : (at line m.place).0 ≢ left
  apart same = other (sym (ap (λ (p : ℕ × ℕ). p.0) is_m) ∙ same)

  abbrev new_place : ℕ
  new_place = length (without left (take m.place line))

  abbrev placed : ℕ → Active
  placed place = record { place = place; consumer = m.consumer; level = m.level }

  active_at : (place : ℕ) → place ≡ new_place → IsActive (without left line) (Some (placed place))
  active_at place is = (
    subst (IsActiveAt (without left line) (length (without left line))) (sym is) (stays_active left line m.place differ was.0 apart),
    ap (slice_get (without left line)) is ∙ stands_at_front left line m.place differ was.0 apart ∙ ap Some is_m,
  )

  pub stays_at_place : stands_there (without left line) m ≡ true → IsActive (without left line) (Some m)
  stays_at_place stands = active_at m.place here
    where
      here : m.place ≡ new_place
      here = elim (slice_get_cases (without left line) m.place).1 [
        | inl found ↦
            let same : found.0.0 ≡ m.consumer = eqb-true found.0.0 m.consumer (sym (ap (λ (o : Option (ℕ × ℕ)). option_map_or (λ other. other.0 == m.consumer) o false) found.2) ∙ stands) in
            one_place (without left line) (differ-without left line differ) m.place new_place found.1 (front_within left line m.place differ was.0 apart)
            (ap (λ (p : ℕ × ℕ). p.0) (get_or_from_slice_get (without left line) m.place found.0 (0, 0) found.2)
            ∙ same
            ∙ sym (ap (λ (p : ℕ × ℕ). p.0) (at_front left line m.place differ was.0 apart ∙ is_m)))
        | inr past ↦ absurd (false≢true (sym (ap (λ (o : Option (ℕ × ℕ)). option_map_or (λ other. other.0 == m.consumer) o false) past.1) ∙ stands))
      ]

  pub moves_up : (place : ℕ) → place ≡ m.place - 1 → stands_there (without left line) m ≡ false → IsActive (without left line) (Some (placed place))
  moves_up place is away =
      elim (cases_eq m.place new_place) [
        | inl same ↦ absurd (false≢true (sym away
            ∙ ap (λ (o : Option (ℕ × ℕ)). option_map_or (λ other. other.0 == m.consumer) o false) ((active_at m.place same).1)
            ∙ eq-eqb m.consumer m.consumer refl))
        | inr moved ↦
            let near = front_near left line m.place differ was.0 apart in
            active_at place (omega (arith, near.0, near.1, moved, is))
      ]
