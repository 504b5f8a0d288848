-- Ranks in a list that rises.
use Rattle.std.proofs.Common.{◌≡◌, ℕ, zero, suc, ◌+◌, ◌<◌, ◌≤◌, Bool, cond, List, [], ◌∷◌, ◌++◌, length, get_or, inl, inr, refl, sym, ap, ◌∙◌, arith}
use Rattle.std.proofs.lemmas.Bool.{cases_eq, ne_eqb, eq-eqb}
use Rattle.hash_rows.specs.Ranks.{rank_of, Rises}

pub rank_within : (xs : List ℕ) (i : ℕ) → rank_of xs i ≤ length xs
rank_within [] i = omega arith
rank_within (x ∷ xs) i = elim (cases_eq x i) [
  | inl is ↦ let here : rank_of (x ∷ xs) i ≡ 0 = ap (λ (b : Bool). cond b zero (suc (rank_of xs i))) (eq-eqb x i is) in omega (arith, here)
  | inr other ↦ let here : rank_of (x ∷ xs) i ≡ suc (rank_of xs i) = ap (λ (b : Bool). cond b zero (suc (rank_of xs i))) (ne_eqb x i other) in omega (arith, here, rank_within xs i)
]

-- what stands at the rank
pub at_rank : (xs : List ℕ) (i : ℕ) → rank_of xs i < length xs → get_or xs (rank_of xs i) 0 ≡ i
at_rank [] i within = absurd (omega (arith, within))
at_rank (x ∷ xs) i within = elim (cases_eq x i) [
  | inl is ↦ let here : rank_of (x ∷ xs) i ≡ 0 = ap (λ (b : Bool). cond b zero (suc (rank_of xs i))) (eq-eqb x i is) in ap (λ (r : ℕ). get_or (x ∷ xs) r 0) here ∙ is
  | inr other ↦
      let here : rank_of (x ∷ xs) i ≡ suc (rank_of xs i) = ap (λ (b : Bool). cond b zero (suc (rank_of xs i))) (ne_eqb x i other) in
      ap (λ (r : ℕ). get_or (x ∷ xs) r 0) here ∙ at_rank xs i (omega (arith, here, within))
]

-- in a list that rises each number has its own rank
pub rank_at : (xs : List ℕ) (r : ℕ) → Rises xs → r < length xs → rank_of xs (get_or xs r 0) ≡ r
rank_at [] r rises within = absurd (omega (arith, within))
rank_at (x ∷ xs) zero rises within = ap (λ (b : Bool). cond b zero (suc (rank_of xs x))) (eq-eqb x x refl)
rank_at (x ∷ xs) (suc r) rises within =
    let above : x < get_or xs r 0 = rises 0 (suc r) (omega arith) within in
    ap (λ (b : Bool). cond b zero (suc (rank_of xs (get_or xs r 0)))) (ne_eqb x (get_or xs r 0) (λ is. omega (arith, above, is)))
    ∙ ap suc (rank_at xs r (λ j k before inside. rises (suc j) (suc k) (omega (arith, before)) (omega (arith, inside))) (omega (arith, within)))

-- ---- one number more

pub rank_before : (xs : List ℕ) (x i : ℕ) → rank_of xs i < length xs → rank_of (xs ++ x ∷ []) i ≡ rank_of xs i
rank_before [] x i within = absurd (omega (arith, within))
rank_before (y ∷ xs) x i within = elim (cases_eq y i) [
  | inl is ↦ ap (λ (b : Bool). cond b zero (suc (rank_of (xs ++ x ∷ []) i))) (eq-eqb y i is) ∙ sym (ap (λ (b : Bool). cond b zero (suc (rank_of xs i))) (eq-eqb y i is))
  | inr other ↦
      let here : rank_of (y ∷ xs) i ≡ suc (rank_of xs i) = ap (λ (b : Bool). cond b zero (suc (rank_of xs i))) (ne_eqb y i other) in
      ap (λ (b : Bool). cond b zero (suc (rank_of (xs ++ x ∷ []) i))) (ne_eqb y i other)
      ∙ ap suc (rank_before xs x i (omega (arith, here, within))) ∙ sym here
]

pub rank_behind : (xs : List ℕ) (x i : ℕ) → length xs ≤ rank_of xs i → rank_of (xs ++ x ∷ []) i ≡ length xs + rank_of (x ∷ []) i
rank_behind [] x i past = omega arith
rank_behind (y ∷ xs) x i past = elim (cases_eq y i) [
  | inl is ↦ let here : rank_of (y ∷ xs) i ≡ 0 = ap (λ (b : Bool). cond b zero (suc (rank_of xs i))) (eq-eqb y i is) in absurd (omega (arith, here, past))
  | inr other ↦
      let here : rank_of (y ∷ xs) i ≡ suc (rank_of xs i) = ap (λ (b : Bool). cond b zero (suc (rank_of xs i))) (ne_eqb y i other) in
      let there : rank_of ((y ∷ xs) ++ x ∷ []) i ≡ suc (rank_of (xs ++ x ∷ []) i) = ap (λ (b : Bool). cond b zero (suc (rank_of (xs ++ x ∷ []) i))) (ne_eqb y i other) in
      omega (arith, there, rank_behind xs x i (omega (arith, here, past)))
]
