-- The number after all that are acknowledged in a row.
use Rattle.std.proofs.Common.{◌≡◌, ℕ, ◌<◌, ◌≤◌, ◌+◌, ◌^◌, Some, None, Option, ap, ◌∙◌, sym, arith, inl, inr}
use Rattle.std.specs.Prelude.{◌⊎◌}
use Rattle.ack_ranges.specs.Joining.{AreApart, IsIn}
use Rattle.ack_ranges.proofs.Joins.{IsEnd, end_cases, same_or_not, lt_or_ge, none_some, some_is}

module _ (f g : ℕ → Option ℕ) (low end : ℕ) (apart : AreApart low f) (is_end : IsEnd f low end) (small : low + 1 < 2 ^ 128) (gone : g (low + 1) ≡ None) (others : (t : ℕ) → (t ≡ low + 1 → ⊥) → g t ≡ f t) where
  old_one : (t u : ℕ) → g t ≡ Some u → (f t ≡ Some u) × (t ≡ low + 1 → ⊥)
  old_one t u is =
      let other : t ≡ low + 1 → ⊥ = λ h. none_some g t u (ap g h ∙ gone) is in
      (sym (others t other) ∙ is, other)

  raised_low : low < end
  raised_low = by (end_cases f low end is_end)
    where
      by : ((f (low + 1) ≡ None) × (end ≡ low + 1)) ⊎ (f (low + 1) ≡ Some end) → low < end
      by (inl n) = omega (arith, n.1)
      by (inr h) = let b : (low < low + 1) × (low + 1 < end) = apart.above (low + 1) end h in omega (arith, b.1)

  below_end : (k : ℕ) → k < end → (k ≡ low → ⊥) → (k < low) ⊎ (low ≤ k) → ((f (low + 1) ≡ None) × (end ≡ low + 1)) ⊎ (f (low + 1) ≡ Some end) → (k < low) ⊎ IsIn f k
  below_end k to other (inl lt) e = inl lt
  below_end k to other (inr ge) (inl n) = let bad : ⊥ = omega (arith, to, other, ge, n.1) in absurd bad
  below_end k to other (inr ge) (inr h) = inr (low + 1, end, h, omega (arith, ge, other), to)

  pub raised_in : (k : ℕ) → (k < end) ⊎ IsIn g k → (k ≡ low) ⊎ ((k < low) ⊎ IsIn f k)
  raised_in k h = by (same_or_not k low) h
    where
      by : (k ≡ low) ⊎ (k ≡ low → ⊥) → (k < end) ⊎ IsIn g k → (k ≡ low) ⊎ ((k < low) ⊎ IsIn f k)
      by (inl same) h = inl same
      by (inr other) (inl lt) = inr (below_end k lt other (lt_or_ge k low) (end_cases f low end is_end))
      by (inr other) (inr i) = inr (inr (i.0, i.1, (old_one i.0 i.1 i.2).0, i.3, i.4))

  in_range : (k t u : ℕ) → f t ≡ Some u → t ≤ k → k < u → (t ≡ low + 1) ⊎ (t ≡ low + 1 → ⊥) → ((f (low + 1) ≡ None) × (end ≡ low + 1)) ⊎ (f (low + 1) ≡ Some end) → (k < end) ⊎ IsIn g k
  in_range k t u is from to (inr other) e = inr (t, u, others t other ∙ is, from, to)
  in_range k t u is from to (inl at) (inl n) = absurd (none_some f t u (ap f at ∙ n.0) is)
  in_range k t u is from to (inl at) (inr h) = let ends : u ≡ end = some_is f t u end is (ap f at ∙ h) in inl (omega (arith, ends, to))

  pub raised_has : (k : ℕ) → (k ≡ low) ⊎ ((k < low) ⊎ IsIn f k) → (k < end) ⊎ IsIn g k
  raised_has k (inl same) = let up : low < end = raised_low in inl (omega (arith, same, up))
  raised_has k (inr (inl lt)) = let up : low < end = raised_low in inl (omega (arith, lt, up))
  raised_has k (inr (inr h)) = in_range k h.0 h.1 h.2 h.3 h.4 (same_or_not h.0 (low + 1)) (end_cases f low end is_end)

  above_end : (t u : ℕ) → f t ≡ Some u → (t ≡ low + 1 → ⊥) → ((f (low + 1) ≡ None) × (end ≡ low + 1)) ⊎ (f (low + 1) ≡ Some end) → end < t
  above_end t u is other (inl n) = let b : (low < t) × (t < u) = apart.above t u is in omega (arith, b.0, other, n.1)
  above_end t u is other (inr h) = let b : (low < t) × (t < u) = apart.above t u is in apart.apart (low + 1) end t u h is (omega (arith, b.0, other))

  few : ((f (low + 1) ≡ None) × (end ≡ low + 1)) ⊎ (f (low + 1) ≡ Some end) → end < 2 ^ 128
  few (inl n) = omega (arith, n.1, small)
  few (inr h) = apart.small (low + 1) end h

  pub raised_apart : AreApart end g
  raised_apart = record {
    low_small = few (end_cases f low end is_end);
    small = λ t u is. apart.small t u (old_one t u is).0;
    above = λ t u is. (above_end t u (old_one t u is).0 (old_one t u is).1 (end_cases f low end is_end), (apart.above t u (old_one t u is).0).1);
    apart = λ t e u v a b lt. apart.apart t e u v (old_one t e a).0 (old_one u v b).0 lt;
  }
