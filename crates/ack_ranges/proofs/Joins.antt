-- One more number among ranges: what is in them then, and that they are apart.
use Rattle.std.proofs.Common.{◌≡◌, ℕ, ◌<◌, ◌≤◌, ◌+◌, ◌^◌, Some, None, Option, Bool, true, false, refl, ap, ◌∙◌, sym, arith, inl, inr, eqb, ltb}
use Rattle.std.specs.Prelude.{◌⊎◌, ◌≢◌}
use Rattle.std.specs.Option.{unwrap_or, is_some}
use Rattle.std.proofs.lemmas.Bool.Decides.{eqb_tells, nat_tests}
use Rattle.ack_ranges.specs.Joining.{AreApart, IsIn, IsLastUpTo, Joined, Joins}

-- the range that begins after q ends here, or q alone does
pub record IsEnd (f : ℕ → Option ℕ) (q end : ℕ) : Type 0 where
  pub is : end ≡ unwrap_or (f (q + 1)) (q + 1)

pub same_or_not : (a b : ℕ) → (a ≡ b) ⊎ (a ≡ b → ⊥)
same_or_not a b = by (eqb_tells a b)
  where
    by : ((eqb a b ≡ true) × (a ≡ b)) ⊎ ((eqb a b ≡ false) × (a ≢ b)) → (a ≡ b) ⊎ (a ≡ b → ⊥)
    by (inl y) = inl y.1
    by (inr n) = inr n.1

pub none_some : (f : ℕ → Option ℕ) (s e : ℕ) → f s ≡ None → f s ≡ Some e → ⊥
none_some f s e n h = cc

pub some_is : (f : ℕ → Option ℕ) (s e u : ℕ) → f s ≡ Some e → f s ≡ Some u → e ≡ u
some_is f s e u a b = cc

-- a range of g that begins elsewhere is one of f
old_range : (f g : ℕ → Option ℕ) (s e after t u : ℕ) → Joined f g s e after → g t ≡ Some u → (t ≡ s → ⊥) → f t ≡ Some u
old_range f g s e after t u j is other = sym (j.others t other (λ same. none_some g t u (ap g same ∙ j.gone) is)) ∙ is

pub end_cases : (f : ℕ → Option ℕ) (q end : ℕ) → IsEnd f q end → ((f (q + 1) ≡ None) × (end ≡ q + 1)) ⊎ (f (q + 1) ≡ Some end)
end_cases f q end h = by (f (q + 1)) refl
  where
    by : (o : Option ℕ) → f (q + 1) ≡ o → ((f (q + 1) ≡ None) × (end ≡ q + 1)) ⊎ (f (q + 1) ≡ Some end)
    by None is = inl (is, h.is ∙ ap (λ o. unwrap_or o (q + 1)) is)
    by (Some e) is = let same : end ≡ e = h.is ∙ ap (λ o. unwrap_or o (q + 1)) is in inr (is ∙ ap (λ n. Some n) (sym same))

pub lt_or_ge : (a b : ℕ) → (a < b) ⊎ (b ≤ a)
lt_or_ge a b = by (ltb a b) refl
  where
    by : (t : Bool) → ltb a b ≡ t → (a < b) ⊎ (b ≤ a)
    by true h = inl (grind (arith, nat_tests))
    by false h = inr (grind (arith, nat_tests))

module _ (f g : ℕ → Option ℕ) (low s q end : ℕ) (apart : AreApart low f) (above : low < s) (le : s ≤ q) (joins : Joins f s q) (out : IsIn f q → ⊥) (is_end : IsEnd f q end) (small : q + 1 < 2 ^ 128) (j : Joined f g s end (q + 1)) where
  end_above : q < end
  end_above = by (end_cases f q end is_end)
    where
      by : ((f (q + 1) ≡ None) × (end ≡ q + 1)) ⊎ (f (q + 1) ≡ Some end) → q < end
      by (inl n) = omega (arith, n.1)
      by (inr h) = let b : (low < q + 1) × (q + 1 < end) = apart.above (q + 1) end h in omega (arith, b.1)

  end_small : end < 2 ^ 128
  end_small = by (end_cases f q end is_end)
    where
      by : ((f (q + 1) ≡ None) × (end ≡ q + 1)) ⊎ (f (q + 1) ≡ Some end) → end < 2 ^ 128
      by (inl n) = omega (arith, n.1, small)
      by (inr h) = apart.small (q + 1) end h

  between : (k : ℕ) → (k ≡ q → ⊥) → s ≤ k → k < end → (k < q) ⊎ (q + 1 ≤ k) → ((f (q + 1) ≡ None) × (end ≡ q + 1)) ⊎ (f (q + 1) ≡ Some end) → Joins f s q → IsIn f k
  between k other from to (inl lt) e (inl same) = let bad : ⊥ = omega (arith, lt, from, same.0) in absurd bad
  between k other from to (inl lt) e (inr h) = (s, q, h, from, lt)
  between k other from to (inr ge) (inl n) js = let bad : ⊥ = omega (arith, ge, to, n.1) in absurd bad
  between k other from to (inr ge) (inr h) js = (q + 1, end, h, ge, to)

  past : (k : ℕ) → (k ≡ q → ⊥) → (k < q) ⊎ (q ≤ k) → (k < q) ⊎ (q + 1 ≤ k)
  past k other (inl lt) = inl lt
  past k other (inr ge) = inr (omega (arith, ge, other))

  in_new : (k t u : ℕ) → g t ≡ Some u → t ≤ k → k < u → (t ≡ s) ⊎ (t ≡ s → ⊥) → (k ≡ q) ⊎ (k ≡ q → ⊥) → (k ≡ q) ⊎ IsIn f k
  in_new k t u is from to at (inl same) = inl same
  in_new k t u is from to (inr other) (inr nope) = inr (t, u, old_range f g s end (q + 1) t u j is other, from, to)
  in_new k t u is from to (inl at) (inr nope) =
      let ends : u ≡ end = some_is g t u end is (ap g at ∙ j.here) in
      inr (between k nope (omega (arith, at, from)) (omega (arith, ends, to)) (past k nope (lt_or_ge k q)) (end_cases f q end is_end) joins)

  pub joined_in : (k : ℕ) → IsIn g k → (k ≡ q) ⊎ IsIn f k
  joined_in k h = in_new k h.0 h.1 h.2 h.3 h.4 (same_or_not h.0 s) (same_or_not k q)

  out_of_first : (t u k : ℕ) → f t ≡ Some u → t ≡ s → k < u → Joins f s q → k < end
  out_of_first t u k is at lt (inl same) =
      let at_q : t ≡ q = at ∙ same.0 in
      let b : (low < t) × (t < u) = apart.above t u is in
      absurd (out (t, u, is, omega (arith, at_q), omega (arith, at_q, b.1)))
  out_of_first t u k is at lt (inr h) =
      let ends : u ≡ q = some_is f t u q is (ap f at ∙ h) in
      let big : q < end = end_above in omega (arith, ends, lt, big)

  in_old : (k t u : ℕ) → f t ≡ Some u → t ≤ k → k < u → (t ≡ s) ⊎ (t ≡ s → ⊥) → (t ≡ q + 1) ⊎ (t ≡ q + 1 → ⊥) → IsIn g k
  in_old k t u is from to (inl at) at2 = (s, end, j.here, omega (arith, at, from), out_of_first t u k is at to joins)
  in_old k t u is from to (inr nope) (inr nope2) = (t, u, j.others t nope nope2 ∙ is, from, to)
  in_old k t u is from to (inr nope) (inl at2) = by (end_cases f q end is_end)
    where
      by : ((f (q + 1) ≡ None) × (end ≡ q + 1)) ⊎ (f (q + 1) ≡ Some end) → IsIn g k
      by (inl n) = absurd (none_some f t u (ap f at2 ∙ n.0) is)
      by (inr h) = let ends : u ≡ end = some_is f t u end is (ap f at2 ∙ h) in (s, end, j.here, omega (arith, le, at2, from), omega (arith, ends, to))

  pub joined_has : (k : ℕ) → (k ≡ q) ⊎ IsIn f k → IsIn g k
  joined_has k (inl same) = let big : q < end = end_above in (s, end, j.here, omega (arith, same, le), omega (arith, same, big))
  joined_has k (inr h) = in_old k h.0 h.1 h.2 h.3 h.4 (same_or_not h.0 s) (same_or_not h.0 (q + 1))

  one_above : (t e : ℕ) → g t ≡ Some e → (t ≡ s) ⊎ (t ≡ s → ⊥) → (low < t) × (t < e) × (e < 2 ^ 128)
  one_above t e is (inl at) =
      let ends : e ≡ end = some_is g t e end is (ap g at ∙ j.here) in
      let big : q < end = end_above in
      let few : end < 2 ^ 128 = end_small in
      (omega (arith, at, above), omega (arith, at, ends, big, le), omega (arith, ends, few))
  one_above t e is (inr other) =
      let h : f t ≡ Some e = old_range f g s end (q + 1) t e j is other in
      let b : (low < t) × (t < e) = apart.above t e h in (b.0, b.1, apart.small t e h)

  q_below : (u v : ℕ) → f u ≡ Some v → s < u → Joins f s q → q < u
  q_below u v is lt (inl same) = omega (arith, same.0, lt)
  q_below u v is lt (inr h) = apart.apart s q u v h is lt

  below_s : (t e : ℕ) → f t ≡ Some e → t < s → Joins f s q → e < s
  below_s t e is lt (inr h) = apart.apart t e s q is h lt
  below_s t e is lt (inl same) = by (lt_or_ge e s)
    where
      at_end : e ≡ q → ⊥
      at_end h = same.1 t (is ∙ ap (λ n. Some n) h)

      by : (e < s) ⊎ (s ≤ e) → e < s
      by (inl lt) = lt
      by (inr ge) = absurd (out (t, e, is, omega (arith, lt, le), omega (arith, ge, same.0, at_end)))

  two_apart : (t e u v : ℕ) → g t ≡ Some e → g u ≡ Some v → t < u → (t ≡ s) ⊎ (t ≡ s → ⊥) → (u ≡ s) ⊎ (u ≡ s → ⊥) → e < u
  two_apart t e u v a b lt (inl at) (inl at2) = let bad : ⊥ = omega (arith, lt, at, at2) in absurd bad
  two_apart t e u v a b lt (inr nope) (inr nope2) = apart.apart t e u v (old_range f g s end (q + 1) t e j a nope) (old_range f g s end (q + 1) u v j b nope2) lt
  two_apart t e u v a b lt (inr nope) (inl at2) =
      let small : e < s = below_s t e (old_range f g s end (q + 1) t e j a nope) (omega (arith, lt, at2)) joins in omega (arith, small, at2)
  two_apart t e u v a b lt (inl at) (inr nope2) =
      let old : f u ≡ Some v = old_range f g s end (q + 1) u v j b nope2 in
      let ends : e ≡ end = some_is g t e end a (ap g at ∙ j.here) in
      let beyond : q < u = q_below u v old (omega (arith, lt, at)) joins in
      let not_next : u ≡ q + 1 → ⊥ = λ h. none_some g u v (ap g h ∙ j.gone) b in
      by old ends (omega (arith, beyond, not_next)) (end_cases f q end is_end)
    where
      by : f u ≡ Some v → e ≡ end → q + 1 < u → ((f (q + 1) ≡ None) × (end ≡ q + 1)) ⊎ (f (q + 1) ≡ Some end) → e < u
      by old ends lt (inl n) = omega (arith, ends, lt, n.1)
      by old ends lt (inr h) = let less : end < u = apart.apart (q + 1) end u v h old lt in omega (arith, ends, less)

  pub joined_apart : AreApart low g
  joined_apart = record {
    low_small = apart.low_small;
    small = λ t e is. (one_above t e is (same_or_not t s)).2;
    above = λ t e is. ((one_above t e is (same_or_not t s)).0, (one_above t e is (same_or_not t s)).1);
    apart = λ t e u v a b lt. two_apart t e u v a b lt (same_or_not t s) (same_or_not u s);
  }

-- what the search for the last range up to q says of q
pub ends_below : (f : ℕ → Option ℕ) (low q s e : ℕ) → AreApart low f → IsLastUpTo f q s e → e ≤ q → IsIn f q → ⊥
ends_below f low q s e apart last le h = by (same_or_not h.0 s)
  where
    by : (h.0 ≡ s) ⊎ (h.0 ≡ s → ⊥) → ⊥
    by (inl at) = let same : h.1 ≡ e = some_is f h.0 h.1 e h.2 (ap f at ∙ last.0) in omega (arith, same, le, h.4)
    by (inr nope) =
        let first : h.0 ≤ s = last.2 h.0 h.3 (ap is_some h.2) in
        let before : h.1 < s = apart.apart h.0 h.1 s e h.2 last.0 (omega (arith, first, nope)) in omega (arith, before, last.1, h.4)

pub none_ends_at : (f : ℕ → Option ℕ) (low q s e : ℕ) → AreApart low f → IsLastUpTo f q s e → (e ≡ q → ⊥) → (t : ℕ) → f t ≡ Some q → ⊥
none_ends_at f low q s e apart last other t h = by (same_or_not t s)
  where
    by : (t ≡ s) ⊎ (t ≡ s → ⊥) → ⊥
    by (inl at) = other (some_is f s e q last.0 (ap f (sym at) ∙ h))
    by (inr nope) =
        let b : (low < t) × (t < q) = apart.above t q h in
        let first : t ≤ s = last.2 t (omega (arith, b.1)) (ap is_some h) in
        let before : q < s = apart.apart t q s e h last.0 (omega (arith, first, nope)) in omega (arith, before, last.1)
