-- The numbers of a set that is kept, by the function from starts to ends.
use Rattle.std.proofs.Common.{◌≡◌, ℕ, ◌<◌, ◌≤◌, List, [], ◌∷◌, Some, Option, Bool, true, false, cond, refl, ◌∙◌, sym, arith, leb, ltb, inl, inr}
use Rattle.std.specs.Prelude.{◌⊎◌, ◌&&◌}
use Rattle.std.specs.List.{Contains}
use Rattle.std.specs.List.Sorted.{IsStrictlySortedBy}
use Rattle.std.specs.Map.{lookup, keys_of}
use Rattle.std.specs.Ordering.{nat_cmp, is_eq}
use Rattle.std.specs.Cmp.{nat_cmp_total, eq_by_cmp_equiv}
use Rattle.std.specs.FinSet as set
use Rattle.std.specs.BTreeMap as tree
use Rattle.std.proofs.lemmas.Bool.Decides.{nat_tests}
use Rattle.std.proofs.lemmas.List.Elements.{Contains-append_right}
use Rattle.std.proofs.lemmas.Map.Keys.{IsDistinct-from_sorted}
use Rattle.std.proofs.lemmas.Map.Views.{lookup-from_Contains, tells_apart}
use Rattle.std.proofs.lemmas.Map.Lookups.{exact_unsigned}
use Rattle.ack_ranges.specs.Joining.{IsIn}
use Rattle.ack_ranges.specs.Kept.{set_of}
use Rattle.ack_ranges.proofs.Covers.{covers, contains_set_of, either, or_first, or_second, in_first}

abbrev pub ends_of : List (ℕ × ℕ) → ℕ → Option ℕ
ends_of es s = lookup (tree.is_at (nat_cmp s)) es

abbrev pub Sorted : List (ℕ × ℕ) → Type 0
Sorted es = IsStrictlySortedBy nat_cmp (keys_of es)

module _ {P : Type 0} (r : ℕ × ℕ) (rs : List (ℕ × ℕ)) (s e : ℕ) where
  pub first_or_later : ends_of (r ∷ rs) s ≡ Some e → (s ≡ r.0 → r.1 ≡ e → P) → (ends_of rs s ≡ Some e → P) → P
  first_or_later h here later = by (is_eq (nat_cmp s r.0)) refl h
    where
      by : (b : Bool) → is_eq (nat_cmp s r.0) ≡ b → cond b (Some r.1) (ends_of rs s) ≡ Some e → P
      by true at h = here (tells_apart {R = nat_cmp} exact_unsigned s r.0 at) (cc)
      by false at h = later h

pub within : (a b q : ℕ) → (leb a q && ltb q b) ≡ true → (a ≤ q) × (q < b)
within a b q h = (within_from a b q h, within_to a b q h)
  where
    within_from : (a b q : ℕ) → (leb a q && ltb q b) ≡ true → a ≤ q
    within_from a b q h = grind (arith, nat_tests)

    within_to : (a b q : ℕ) → (leb a q && ltb q b) ≡ true → q < b
    within_to a b q h = grind (arith, nat_tests)

covered_by : (es : List (ℕ × ℕ)) (q : ℕ) → covers es q ≡ true → (s : ℕ) × (e : ℕ) × Contains es (s, e) × (s ≤ q) × (q < e)
covered_by [] q h = cc
covered_by (r ∷ es) q h = by (covered_by es q) (either _ _ h)
  where
    by : (covers es q ≡ true → (s : ℕ) × (e : ℕ) × Contains es (s, e) × (s ≤ q) × (q < e)) → ((leb r.0 q && ltb q r.1) ≡ true) ⊎ (covers es q ≡ true) → (s : ℕ) × (e : ℕ) × Contains (r ∷ es) (s, e) × (s ≤ q) × (q < e)
    by ih (inl h) = let p : (r.0 ≤ q) × (q < r.1) = within r.0 r.1 q h in (r.0, r.1, (0, omega arith, refl), p.0, p.1)
    by ih (inr h) = let p : (s : ℕ) × (e : ℕ) × Contains es (s, e) × (s ≤ q) × (q < e) = ih h in (p.0, p.1, Contains-append_right (r ∷ []) es _ p.2, p.3, p.4)

covered : (es : List (ℕ × ℕ)) (q s e : ℕ) → ends_of es s ≡ Some e → s ≤ q → q < e → covers es q ≡ true
covered [] q s e h from to = cc
covered (r ∷ es) q s e h from to = first_or_later r es s e h
    (λ at ends. in_first r.0 r.1 q (covers es q) (omega (arith, at, from)) (omega (arith, ends, to)))
    (λ h. or_second _ _ (covered es q s e h from to))

-- in the numbers below low, or in a range
abbrev pub Has : ℕ → (ℕ → Option ℕ) → ℕ → Type 0
Has low f q = (q < low) ⊎ IsIn f q

is_below : (q low : ℕ) → ltb q low ≡ true → q < low
is_below q low h = grind (arith, nat_tests)

below_is : (q low : ℕ) → q < low → ltb q low ≡ true
below_is q low h = grind (arith, nat_tests)

pub in_set : (low : ℕ) (es : List (ℕ × ℕ)) (q : ℕ) → Sorted es → set.contains (set_of low es) q ≡ true → Has low (ends_of es) q
in_set low es q sorted h = by (either _ _ (sym (contains_set_of low es q) ∙ h))
  where
    by : (ltb q low ≡ true) ⊎ (covers es q ≡ true) → Has low (ends_of es) q
    by (inl h) = inl (is_below q low h)
    by (inr h) =
        let p : (s : ℕ) × (e : ℕ) × Contains es (s, e) × (s ≤ q) × (q < e) = covered_by es q h in
        inr (p.0, p.1, lookup-from_Contains (eq_by_cmp_equiv nat_cmp_total) p.0 p.1 es (IsDistinct-from_sorted nat_cmp (keys_of es) sorted) p.2, p.3, p.4)

pub has_set : (low : ℕ) (es : List (ℕ × ℕ)) (q : ℕ) → Has low (ends_of es) q → set.contains (set_of low es) q ≡ true
has_set low es q (inl lt) = contains_set_of low es q ∙ or_first _ _ (below_is q low lt)
has_set low es q (inr h) = contains_set_of low es q ∙ or_second _ _ (covered es q h.0 h.1 h.2 h.3 h.4)
