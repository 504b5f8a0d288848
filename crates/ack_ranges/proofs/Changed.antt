-- What a call that may find no memory leaves of a set behind a base.
use Rattle.std.proofs.Common.{◌≡◌, ℕ, ◌<◌, ◌≤◌, ◌+◌, ◌^◌, Bool, true, false, cond, ap, sym, ◌∙◌, subst, Result, Ok, Err}
use Rattle.std.specs.Prelude.{◌⊎◌, ◌↔◌, IsTrue, IfOk, OnOk, OnErr}
use Rattle.std.specs.Ordering.{nat_cmp}
use Rattle.std.specs.FinSet as set
use Rattle.ack_ranges.specs.Lowered.{lowered, IsRaised}
use Rattle.ack_ranges.specs.Ranges.{from_to, HasGapBefore, MayFollow}
use Rattle.ack_ranges.proofs.Raised.{lowered_insert, raised_insert, gap_lowered, lowered_from_to, raised_from_to, follows_lowered, lowered_follows}

module _ {A E : Type 0} (base : ℕ) (s : set.FinSet nat_cmp) (raised : IsRaised base s) (n place : ℕ) (at : n ≡ base + place) where
  pub added : place + 1 < 2 ^ 64 → (2 ^ 64 ≤ n → (p : ℕ) × (p + 1 ≡ n) × (set.contains s p ≡ true)) → (r : Result A E) (t : set.FinSet nat_cmp) → OnOk r (t ≡ set.insert s n) → OnErr r (t ≡ s) → IsRaised base t
  added few joins (Ok x) t is same = subst (λ (u : set.FinSet nat_cmp). IsRaised base u) (sym is) (raised_insert base s raised n place at few joins)
  added few joins (Err e) t is same = subst (λ (u : set.FinSet nat_cmp). IsRaised base u) (sym same) raised

  pub added_is : (r : Result A E) (t : set.FinSet nat_cmp) → OnOk r (t ≡ set.insert s n) → OnOk r (lowered base t ≡ set.insert (lowered base s) place)
  added_is (Ok x) t is = ap (lowered base) (is ∙ ap (set.insert s) at) ∙ lowered_insert base s raised place
  added_is (Err e) t is = tt

  pub gap_is : (r : Result A E) → OnErr r (HasGapBefore s n) → OnErr r (HasGapBefore (lowered base s) place)
  gap_is (Ok x) gap = tt
  gap_is (Err e) gap = gap_lowered base s raised place (subst (λ (k : ℕ). HasGapBefore s k) at gap)

-- ---- a range behind all others

-- what a set stands for, and that a base is only kept below more
pub record IsBegun (base : ℕ) (s v : set.FinSet nat_cmp) : Type 0 where
  pub raised : IsRaised base s
  pub stands : lowered base s ≡ v
  pub some : (base ≡ 0) ⊎ (set.len (lowered base s) ≡ 0 → ⊥)

module _ (base : ℕ) (s v t : set.FinSet nat_cmp) (begun : IsBegun base s v) (a b start end : ℕ) (a_is : a ≡ base + start) (b_is : b ≡ base + end) where
  abbrev pub Pushed : {E : Type 0} → Result Bool E → Type 0
  Pushed r = IfOk r (λ w. t ≡ cond w (set.union s (from_to a b)) s)

  same_ends : from_to a b ≡ from_to (base + start) (base + end)
  same_ends = ap (λ k. from_to k b) a_is ∙ ap (λ k. from_to (base + start) k) b_is

  pub pushed_raised : {E : Type 0} → a < 2 ^ 64 → end < 2 ^ 64 → (r : Result Bool E) → Pushed r → OnErr r (t ≡ s) → IsRaised base t
  pushed_raised low few (Ok true) is same = subst (λ (u : set.FinSet nat_cmp). IsRaised base u) (sym is) (raised_from_to base s begun.raised a b end low b_is few)
  pushed_raised low few (Ok false) is same = subst (λ (u : set.FinSet nat_cmp). IsRaised base u) (sym is) begun.raised
  pushed_raised low few (Err e) is same = subst (λ (u : set.FinSet nat_cmp). IsRaised base u) (sym same) begun.raised

  pub pushed_is : {E : Type 0} → (r : Result Bool E) → Pushed r → IfOk r (λ w. lowered base t ≡ cond w (set.union v (from_to start end)) v)
  pushed_is (Ok true) is =
      ap (lowered base) (is ∙ ap (set.union s) same_ends) ∙ lowered_from_to base s begun.raised start end
      ∙ ap (λ u. set.union u (from_to start end)) begun.stands
  pushed_is (Ok false) is = ap (lowered base) is ∙ begun.stands
  pushed_is (Err e) is = tt

  pub not_pushed : {E : Type 0} → (r : Result Bool E) → OnErr r (t ≡ s) → OnErr r (lowered base t ≡ v)
  not_pushed (Ok w) same = tt
  not_pushed (Err e) same = ap (lowered base) same ∙ begun.stands

  there : MayFollow v start end → MayFollow s a b
  there may =
      let low = lowered_follows base s begun.raised start end begun.some (subst (λ (u : set.FinSet nat_cmp). MayFollow u start end) (sym begun.stands) may) in
      subst (λ (k : ℕ). MayFollow s k b) (sym a_is) (subst (λ (k : ℕ). MayFollow s (base + start) k) (sym b_is) low)

  back : MayFollow s a b → MayFollow v start end
  back may =
      let high = subst (λ (k : ℕ). MayFollow s (base + start) k) b_is (subst (λ (k : ℕ). MayFollow s k b) a_is may) in
      subst (λ (u : set.FinSet nat_cmp). MayFollow u start end) begun.stands (follows_lowered base s begun.raised start end high)

  pub pushed_where : {E : Type 0} → (r : Result Bool E) → IfOk r (λ w. IsTrue w ↔ MayFollow s a b) → IfOk r (λ w. IsTrue w ↔ MayFollow v start end)
  pushed_where (Ok w) where_it = (λ h. back (where_it.0 h), λ may. where_it.1 (there may))
  pushed_where (Err e) where_it = tt
