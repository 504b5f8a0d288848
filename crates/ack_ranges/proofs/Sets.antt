-- The set that the ranges stand for after a number was added.
use Rattle.std.proofs.Common.{◌≡◌, ℕ, ◌<◌, ◌^◌, subst, ◌+◌, List, None, Bool, true, false, refl, ap, ◌∙◌, sym, inl, inr, arith}
use Rattle.std.specs.Prelude.{◌⊎◌, ◌||◌}
use Rattle.std.specs.Ordering.{nat_cmp, eq_by_cmp}
use Rattle.std.specs.Cmp.{nat_cmp_total, eq_by_cmp_equiv}
use Rattle.std.specs.FinSet as set
use Rattle.std.specs.BTreeMap as tree
use Rattle.std.proofs.lemmas.Map.Views.{tells_apart}
use Rattle.std.proofs.lemmas.Map.Lookups.{exact_unsigned}
use Rattle.ack_ranges.specs.Joining.{IsIn, AreApart, TakesIn, Joined}
use Rattle.ack_ranges.specs.Kept.{set_of}
use Rattle.ack_ranges.proofs.Covers.{either, or_first, or_second}
use Rattle.ack_ranges.proofs.Members.{Has, Sorted, ends_of, in_set, has_set}
use Rattle.ack_ranges.proofs.Low.{raised_in, raised_has, raised_apart}
use Rattle.std.proofs.lemmas.Grind.{common_steps}
use Rattle.ack_ranges.proofs.Joins.{IsEnd, joined_in, joined_has, joined_apart}

both_ways : (a b : Bool) → (a ≡ true → b ≡ true) → (b ≡ true → a ≡ true) → a ≡ b
both_ways true b to from = sym (to refl)
both_ways false true to from = from refl
both_ways false false to from = refl

pub contains_is : (low : ℕ) (es : List (ℕ × ℕ)) (q : ℕ) (b : Bool) → Sorted es → (b ≡ true → Has low (ends_of es) q) → (Has low (ends_of es) q → b ≡ true) → b ≡ set.contains (set_of low es) q
contains_is low es q b sorted to from = both_ways b _ (λ h. has_set low es q (to h)) (λ h. from (in_set low es q sorted h))

inserted : (low up : ℕ) (es fs : List (ℕ × ℕ)) (q : ℕ) → Sorted es → Sorted fs → ((k : ℕ) → Has up (ends_of fs) k → (k ≡ q) ⊎ Has low (ends_of es) k) → ((k : ℕ) → (k ≡ q) ⊎ Has low (ends_of es) k → Has up (ends_of fs) k) → set_of up fs ≡ set.insert (set_of low es) q
inserted low up es fs q old new to from = set.same_set nat_cmp_total exact_unsigned _ _ (λ k.
    both_ways _ _ (forth k) (back k) ∙ sym (set.contains-insert nat_cmp_total (set_of low es) q k))
  where
    forth : (k : ℕ) → set.contains (set_of up fs) k ≡ true → (eq_by_cmp nat_cmp k q || set.contains (set_of low es) k) ≡ true
    forth k h = by (to k (in_set up fs k new h))
      where
        by : (k ≡ q) ⊎ Has low (ends_of es) k → (eq_by_cmp nat_cmp k q || set.contains (set_of low es) k) ≡ true
        by (inl same) = or_first _ _ (ap (λ n. eq_by_cmp nat_cmp k n) (sym same) ∙ (eq_by_cmp_equiv nat_cmp_total).refl k)
        by (inr h) = or_second _ _ (has_set low es k h)

    back : (k : ℕ) → (eq_by_cmp nat_cmp k q || set.contains (set_of low es) k) ≡ true → set.contains (set_of up fs) k ≡ true
    back k h = has_set up fs k (by (either _ _ h))
      where
        by : (eq_by_cmp nat_cmp k q ≡ true) ⊎ (set.contains (set_of low es) k ≡ true) → Has up (ends_of fs) k
        by (inl same) = from k (inl (tells_apart {R = nat_cmp} exact_unsigned k q same))
        by (inr h) = from k (inr (in_set low es k old h))

-- the first that is not in the set
pub low_missing : (low : ℕ) (es : List (ℕ × ℕ)) → Sorted es → AreApart low (ends_of es) → set.contains (set_of low es) low ≡ false
low_missing low es sorted apart = sym (contains_is low es low false sorted (λ h. cc) (λ h. by h))
  where
    by : Has low (ends_of es) low → false ≡ true
    by (inl lt) = let bad : ⊥ = omega (arith, lt) in absurd bad
    by (inr h) = let b : (low < h.0) × (h.0 < h.1) = apart.above h.0 h.1 h.2 in let bad : ⊥ = omega (arith, b.0, h.3) in absurd bad

pub low_before : (low : ℕ) (es : List (ℕ × ℕ)) (k : ℕ) → k < low → set.contains (set_of low es) k ≡ true
low_before low es k lt = has_set low es k (inl lt)

-- what is there already
pub already_in : (s : set.FinSet nat_cmp) (q : ℕ) → set.contains s q ≡ true → s ≡ set.insert s q
already_in s q is_in = set.same_set nat_cmp_total exact_unsigned _ _ (λ k. sym (set.contains-insert nat_cmp_total s q k ∙ by k (eq_by_cmp nat_cmp k q) refl))
  where
    by : (k : ℕ) (b : Bool) → eq_by_cmp nat_cmp k q ≡ b → (b || set.contains s k) ≡ set.contains s k
    by k true at = sym (ap (λ n. set.contains s n) (tells_apart {R = nat_cmp} exact_unsigned k q at) ∙ is_in)
    by k false at = refl

pub joined_set : (low : ℕ) (es fs : List (ℕ × ℕ)) (s q end : ℕ) → Sorted es → Sorted fs → AreApart low (ends_of es) → TakesIn (ends_of es) low s q → IsEnd (ends_of es) q end → q + 1 < 2 ^ 128 → Joined (ends_of es) (ends_of fs) s end (q + 1) → set_of low fs ≡ set.insert (set_of low es) q
joined_set low es fs s q end old new apart t e small j = inserted low low es fs q old new to from
  where
    to : (k : ℕ) → Has low (ends_of fs) k → (k ≡ q) ⊎ Has low (ends_of es) k
    to k (inl lt) = inr (inl lt)
    to k (inr h) = by (joined_in (ends_of es) (ends_of fs) low s q end apart t.above t.le t.joins t.out e small j k h)
      where
        by : (k ≡ q) ⊎ IsIn (ends_of es) k → (k ≡ q) ⊎ Has low (ends_of es) k
        by (inl same) = inl same
        by (inr h) = inr (inr h)

    from : (k : ℕ) → (k ≡ q) ⊎ Has low (ends_of es) k → Has low (ends_of fs) k
    from k (inl same) = inr (joined_has (ends_of es) (ends_of fs) low s q end apart t.above t.le t.joins t.out e small j k (inl same))
    from k (inr (inl lt)) = inl lt
    from k (inr (inr h)) = inr (joined_has (ends_of es) (ends_of fs) low s q end apart t.above t.le t.joins t.out e small j k (inr h))

pub joined_ranges : (low : ℕ) (es fs : List (ℕ × ℕ)) (s q end : ℕ) → AreApart low (ends_of es) → TakesIn (ends_of es) low s q → IsEnd (ends_of es) q end → q + 1 < 2 ^ 128 → Joined (ends_of es) (ends_of fs) s end (q + 1) → AreApart low (ends_of fs)
joined_ranges low es fs s q end apart t e small j = joined_apart (ends_of es) (ends_of fs) low s q end apart t.above t.le t.joins t.out e small j

raised_set : (low : ℕ) (es fs : List (ℕ × ℕ)) (end : ℕ) → Sorted es → Sorted fs → AreApart low (ends_of es) → IsEnd (ends_of es) low end → low + 1 < 2 ^ 128 → ends_of fs (low + 1) ≡ None → ((t : ℕ) → (t ≡ low + 1 → ⊥) → ends_of fs t ≡ ends_of es t) → set_of end fs ≡ set.insert (set_of low es) low
raised_set low es fs end old new apart e small gone others = inserted low end es fs low old new
    (λ k h. raised_in (ends_of es) (ends_of fs) low end apart e small gone others k h)
    (λ k h. raised_has (ends_of es) (ends_of fs) low end apart e small gone others k h)

other_key : (a b : ℕ) → (b ≡ a → ⊥) → tree.is_at (nat_cmp a) b ≡ false
other_key a b h = grind (arith, common_steps)

pub raised_at : (low : ℕ) (es fs : List (ℕ × ℕ)) (q end : ℕ) → q ≡ low → Sorted es → Sorted fs → AreApart low (ends_of es) → IsEnd (ends_of es) q end → q + 1 < 2 ^ 128 → ends_of fs (q + 1) ≡ None → ((t : ℕ) → tree.is_at (nat_cmp (q + 1)) t ≡ false → ends_of fs t ≡ ends_of es t) → (set_of end fs ≡ set.insert (set_of low es) q) × AreApart end (ends_of fs)
raised_at low es fs q end same old new apart e small gone others =
    let at : AreApart q (ends_of es) = subst (λ (n : ℕ). AreApart n (ends_of es)) (sym same) apart in
    let rest : (t : ℕ) → (t ≡ q + 1 → ⊥) → ends_of fs t ≡ ends_of es t = λ t h. others t (other_key (q + 1) t h) in
    (raised_set q es fs end old new at e small gone rest ∙ ap (λ n. set.insert (set_of n es) q) same, raised_apart (ends_of es) (ends_of fs) q end at e small gone rest)
