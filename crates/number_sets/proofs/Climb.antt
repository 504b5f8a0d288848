-- The least node of a range, found by a climb from its two ends.
use Rattle.std.proofs.Common.{◌≡◌, ℕ, ◌+◌, ◌-◌, ◌*◌, ◌/◌, ◌%◌, ◌<◌, ◌≤◌, Bool, true, false, cond, inl, inr, refl, sym, ap, subst, arith}
use Rattle.std.specs.Prelude.{nat_lt, min, ◌==◌}
use Rattle.std.specs.Int.{div_ceil}
use Rattle.std.proofs.lemmas.Bool.{cases_eq, cases_lt, ltb-true, ltb-false, eq-eqb}
use Rattle.number_sets.specs.declared.node.Node.{Node}
use Rattle.number_sets.specs.Nodes.{nothing, none_yet, better, IsLeastOf}

left_by : (a b : Node) (t : Bool) → nat_lt b.number a.number ≡ t → (cond t b a).number ≤ a.number
left_by a b true e = let less = ltb-true b.number a.number e in omega arith
left_by a b false e = omega arith

right_by : (a b : Node) (t : Bool) → nat_lt b.number a.number ≡ t → (cond t b a).number ≤ b.number
right_by a b true e = omega arith
right_by a b false e = ltb-false b.number a.number e

one_by : (P : Node → Type 0) (a b : Node) (t : Bool) → P a → P b → P (cond t b a)
one_by P a b true p q = q
one_by P a b false p q = p

pub better_left : (a b : Node) → (better a b).number ≤ a.number
better_left a b = left_by a b (nat_lt b.number a.number) refl

pub better_right : (a b : Node) → (better a b).number ≤ b.number
better_right a b = right_by a b (nat_lt b.number a.number) refl

-- what holds of both holds of the better
pub better_one : (P : Node → Type 0) (a b : Node) → P a → P b → P (better a b)
better_one P a b p q = one_by P a b (nat_lt b.number a.number) p q

-- the node is one of the range, if it has a number
abbrev pub IsInside : (ℕ → Node) → ℕ → ℕ → Node → Type 0
IsInside f from end n = n.number < none_yet → (k : ℕ) × (from ≤ k) × (k < end) × (f k ≡ n)

-- the least of the range is the node or the least of those from `left` to `right`
pub record IsClimb (f : ℕ → Node) (from end left right : ℕ) (least : Node) : Type 0 where
  pub below : (x : ℕ) → x ≤ least.number → ((k : ℕ) → left ≤ k → k < right → x ≤ (f k).number) → (k : ℕ) → from ≤ k → k < end → x ≤ (f k).number
  pub found : IsInside f from end least
  pub inside : (k : ℕ) → left ≤ k → k < right → IsInside f from end (f k)

-- a node that counts
counted_below : (x : ℕ) (b : Bool) (n e : Node) → e ≡ cond b n nothing → b ≡ true → x ≤ e.number → x ≤ n.number
counted_below x true n e is _ h = subst (λ m. x ≤ m.number) is h
counted_below x false n e is p h = absurd (bad p)
  where
    bad : false ≡ true → ⊥
    bad p = cc

counted_inside : (f : ℕ → Node) (from end : ℕ) (b : Bool) (n e : Node) → e ≡ cond b n nothing → (b ≡ true → IsInside f from end n) → IsInside f from end e
counted_inside f from end true n e is h = subst (IsInside f from end) (sym is) (h refl)
counted_inside f from end false n e is h = subst (IsInside f from end) (sym is) (λ less. absurd (omega arith))

module _ (f : ℕ → Node) (right_at : (k : ℕ) → 0 < k → k < 256 → f k ≡ better (f (2 * k)) (f (2 * k + 1))) where
  -- what is below a node is below both under it
  below_under : (x k : ℕ) → 1 < k → k < 512 → x ≤ (f (k / 2)).number → x ≤ (f k).number
  below_under x k more less h = elim (cases_eq (k % 2) 0) [
    | inl even ↦
        let same : 2 * (k / 2) ≡ k = omega arith in
        subst (λ j. x ≤ (f j).number) same (omega (arith, both, better_left (f (2 * (k / 2))) (f (2 * (k / 2) + 1))))
    | inr odd ↦
        let same : 2 * (k / 2) + 1 ≡ k = omega arith in
        subst (λ j. x ≤ (f j).number) same (omega (arith, both, better_right (f (2 * (k / 2))) (f (2 * (k / 2) + 1))))
  ]
    where
      both : x ≤ (better (f (2 * (k / 2))) (f (2 * (k / 2) + 1))).number
      both = subst (λ n. x ≤ n.number) (right_at (k / 2) (omega arith) (omega arith)) h

  -- one level up
  pub climbed : (from end left right : ℕ) (least x y : Node) → 0 < left → left < right → right ≤ 512 → x ≡ cond (left % 2 == 1) (f left) nothing → y ≡ cond (right % 2 == 1) (f (right - 1)) nothing → IsClimb f from end left right least → IsClimb f from end ((left + 1) / 2) (right / 2) (better least (better x y))
  climbed from end left right least x y pos some small is_x is_y is = record {
    below = λ z h rest. is.below z (omega (arith, better_left least (better x y))) (each z h rest);
    found = better_one (IsInside f from end) least (better x y) is.found
        (better_one (IsInside f from end) x y
        (counted_inside f from end (left % 2 == 1) (f left) x is_x (λ _. is.inside left (omega arith) (omega arith)))
        (counted_inside f from end (right % 2 == 1) (f (right - 1)) y is_y (λ _. is.inside (right - 1) (omega arith) (omega arith))));
    inside = λ k p q. subst (IsInside f from end) (sym (right_at k (omega arith) (omega arith)))
        (better_one (IsInside f from end) (f (2 * k)) (f (2 * k + 1)) (is.inside (2 * k) (omega arith) (omega arith)) (is.inside (2 * k + 1) (omega arith) (omega arith)));
  }
    where
      at_left : (z : ℕ) → z ≤ (better least (better x y)).number → left % 2 ≡ 1 → z ≤ (f left).number
      at_left z h odd = counted_below z (left % 2 == 1) (f left) x is_x (eq-eqb (left % 2) 1 odd) (omega (arith, better_right least (better x y), better_left x y))

      at_right : (z : ℕ) → z ≤ (better least (better x y)).number → right % 2 ≡ 1 → z ≤ (f (right - 1)).number
      at_right z h odd = counted_below z (right % 2 == 1) (f (right - 1)) y is_y (eq-eqb (right % 2) 1 odd) (omega (arith, better_right least (better x y), better_right x y))

      each : (z : ℕ) → z ≤ (better least (better x y)).number → ((k : ℕ) → (left + 1) / 2 ≤ k → k < right / 2 → z ≤ (f k).number) → (k : ℕ) → left ≤ k → k < right → z ≤ (f k).number
      each z h rest k p q = elim (cases_lt (k / 2) ((left + 1) / 2)) [
        | inl low ↦ let same : left ≡ k = omega arith in subst (λ j. z ≤ (f j).number) same (at_left z h (omega arith))
        | inr high ↦ elim (cases_lt (k / 2) (right / 2)) [
          | inl within ↦ below_under z k (omega arith) (omega arith) (rest (k / 2) high within)
          | inr past ↦ let same : right - 1 ≡ k = omega arith in subst (λ j. z ≤ (f j).number) same (at_right z h (omega arith))
        ]
      ]

-- at the leaves
pub leaves_climbed : (f : ℕ → Node) (from end left right : ℕ) (least : Node) → right ≤ left → IsClimb f (256 + from) (256 + end) left right least → IsLeastOf (λ k. f (256 + k)) from end least
leaves_climbed f from end left right least past is = record {
  below = λ k p q. is.below least.number (omega arith) (λ j s t. absurd (omega arith)) (256 + k) (omega arith) (omega arith);
  found = λ less. let it = is.found less in (it.0 - 256, omega (arith, it.1), omega (arith, it.2), subst (λ k. f k ≡ least) (back it.0 (omega (arith, it.1))) it.3);
}
  where
    back : (k : ℕ) → 256 ≤ k → k ≡ 256 + (k - 256)
    back k h = omega arith

pub half_up : (n : ℕ) → div_ceil n 2 ≡ (n + 1) / 2
half_up n = elim (cases_eq (n % 2) 0) [
  | inl even ↦ omega (arith, ap (min 1) even)
  | inr odd ↦ let one : n % 2 ≡ 1 = omega arith in omega (arith, ap (min 1) one)
]
