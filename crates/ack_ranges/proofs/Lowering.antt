-- What a set behind a base stands for: its numbers, its ranges and how many they are.
use Rattle.std.proofs.Common.{◌≡◌, ℕ, zero, suc, ◌<◌, ◌≤◌, ◌+◌, ◌-◌, ◌^◌, List, [], ◌∷◌, length, Bool, true, false, cond, refl, ap, sym, ◌∙◌, subst, inl, inr, arith, leb, ltb}
use mir.Val.{bool_byte}
use Rattle.std.specs.Prelude.{◌||◌, ◌&&◌, nat_eq}
use Rattle.std.specs.List.{count_by}
use Rattle.std.specs.Ordering.{nat_cmp}
use Rattle.std.specs.Cmp.{nat_cmp_total}
use Rattle.std.specs.FinSet as set
use Rattle.std.proofs.lemmas.Bool.{cases_lt, false≢true}
use Rattle.std.proofs.lemmas.Bool.Decides.{nat_tests}
use Rattle.std.proofs.lemmas.List.Sums.{sum_by-cons}
use Rattle.ack_ranges.specs.Kept.{set_of, with_low}
use Rattle.ack_ranges.specs.Lowered.{less_each, lowered, lower_ranges, AreWithin, IsRaised}
use Rattle.ack_ranges.specs.Ranges.{numbers, RiseAbove, AreRangesOf, IsNextMissing}
use Rattle.ack_ranges.proofs.Counts.{count_alike, count_all, count_rest, len_counted, one}
use Rattle.ack_ranges.proofs.Covers.{has, covers, contains_set_of, in_first, or_second, same_numbers}
use Rattle.ack_ranges.proofs.Equal.{all_ranges, length_all}
use Rattle.ack_ranges.proofs.Sets.{low_before}
use Rattle.ack_ranges.proofs.Sizes.{above_covers}

-- ---- numbers

too_low : (n k q : ℕ) (b c : Bool) → ltb k n ≡ true → b ≡ c → b ≡ (nat_eq k (n + q) || c)
too_low n k q b c low same = grind (arith, nat_tests)

same_later : (n k q : ℕ) (b c : Bool) → ltb k n ≡ false → b ≡ c → (nat_eq (k - n) q || b) ≡ (nat_eq k (n + q) || c)
same_later n k q b c high same = grind (arith, nat_tests)

has_less : (n : ℕ) (ks : List ℕ) (q : ℕ) → has q (less_each n ks) ≡ has (n + q) ks
has_less n [] q = refl
has_less n (k ∷ ks) q = by (has_less n ks q) (ltb k n) refl
  where
    by : has q (less_each n ks) ≡ has (n + q) ks → (b : Bool) → ltb k n ≡ b → has q (cond b (less_each n ks) ((k - n) ∷ less_each n ks)) ≡ has (n + q) (k ∷ ks)
    by rest true low = too_low n k q (has q (less_each n ks)) (has (n + q) ks) low rest
    by rest false high = same_later n k q (has q (less_each n ks)) (has (n + q) ks) high rest

contains_items : (s : set.FinSet nat_cmp) (q : ℕ) → set.contains s q ≡ has q (set.items s)
contains_items s q =
    set.contains-items s q ∙ sym (set.contains-from_list nat_cmp_total (set.items s) q)
    ∙ set.contains-from_list_nat (set.items s) q

pub contains_lowered : (n : ℕ) (s : set.FinSet nat_cmp) (q : ℕ) → set.contains (lowered n s) q ≡ set.contains s (n + q)
unfolding lowered
contains_lowered n s q =
    set.contains-from_list_nat (less_each n (set.items s)) q ∙ has_less n (set.items s) q ∙ sym (contains_items s (n + q))

pub lowered_is : (n : ℕ) (s t : set.FinSet nat_cmp) → ((q : ℕ) → set.contains s (n + q) ≡ set.contains t q) → lowered n s ≡ t
lowered_is n s t same = same_numbers _ _ (λ q. contains_lowered n s q ∙ same q)

-- ---- ranges

lower_first : (n s e q : ℕ) (b c : Bool) → b ≡ c → ((leb (s - n) q && ltb q (e - n)) || b) ≡ ((leb s (n + q) && ltb (n + q) e) || c)
lower_first n s e q b c same = grind (arith, nat_tests)

covers_lower : (n : ℕ) (es : List (ℕ × ℕ)) (q : ℕ) → covers (lower_ranges n es) q ≡ covers es (n + q)
covers_lower n [] q = refl
covers_lower n (r ∷ rs) q = lower_first n r.0 r.1 q (covers (lower_ranges n rs) q) (covers rs (n + q)) (covers_lower n rs q)

lower_low : (n low q : ℕ) (b c : Bool) → b ≡ c → (ltb (n + q) low || c) ≡ (ltb q (low - n) || b)
lower_low n low q b c same = grind (arith, nat_tests)

lowered_ranges : (n low : ℕ) (es : List (ℕ × ℕ)) → lowered n (set_of low es) ≡ set_of (low - n) (lower_ranges n es)
lowered_ranges n low es = lowered_is n (set_of low es) _ (λ q.
    contains_set_of low es (n + q) ∙ lower_low n low q (covers (lower_ranges n es) q) (covers es (n + q)) (covers_lower n es q)
    ∙ sym (contains_set_of (low - n) (lower_ranges n es) q))

rise_lower : (n a : ℕ) (es : List (ℕ × ℕ)) → n ≤ a → RiseAbove a es → RiseAbove (a - n) (lower_ranges n es)
rise_lower n a [] le rise = tt
rise_lower n a (r ∷ rs) le rise =
    (omega (arith, le, rise.0), omega (arith, le, rise.0, rise.1), rise_lower n r.1 rs (omega (arith, le, rise.0, rise.1)) rise.2)

self_out : (a : ℕ) (b : Bool) → b ≡ false → (ltb a a || b) ≡ false
self_out a b out = grind (arith, nat_tests)

within_ranges : (base a : ℕ) (es : List (ℕ × ℕ)) → RiseAbove a es → ((k : ℕ) → covers es k ≡ true → k + 1 < base + 2 ^ 64) → AreWithin base es
within_ranges base a [] rise within = tt
within_ranges base a (r ∷ rs) rise within =
    let last = within (r.1 - 1) (in_first r.0 r.1 (r.1 - 1) (covers rs (r.1 - 1)) (omega (arith, rise.1)) (omega (arith, rise.1))) in (
      omega (arith, last, rise.1),
      omega (arith, last, rise.1),
      within_ranges base r.1 rs rise.2 (λ k is_in. within k (or_second _ _ is_in)),
    )

module _ (base low : ℕ) (es : List (ℕ × ℕ)) (rise : RiseAbove low es) (raised : IsRaised base (set_of low es)) where
  base_below : base ≤ low
  base_below = elim (cases_lt low base) [
    | inl below ↦
        absurd (false≢true (sym (contains_set_of low es low ∙ self_out low (covers es low) (above_covers low es low rise (omega arith))) ∙ raised.below low below))
    | inr past ↦ past
  ]

  pub are_within : AreWithin base es
  are_within = within_ranges base low es rise (λ k is_in. raised.within k (contains_set_of low es k ∙ or_second (ltb k low) (covers es k) is_in))

  pub are_lowered : AreRangesOf (lowered base (set_of low es)) (with_low (low - base) (lower_ranges base es))
  are_lowered =
      subst (λ (s : set.FinSet nat_cmp). AreRangesOf s (with_low (low - base) (lower_ranges base es))) (sym (lowered_ranges base low es))
      (all_ranges (low - base) (lower_ranges base es) (rise_lower base low es base_below rise))

pub low_within : (base low : ℕ) (es : List (ℕ × ℕ)) → IsRaised base (set_of low es) → low < base + 2 ^ 64
low_within base zero es raised = omega arith
low_within base (suc n) es raised = let last = raised.within n (low_before (suc n) es n (omega arith)) in omega (arith, last)

length_lower : (n : ℕ) (es : List (ℕ × ℕ)) → length (lower_ranges n es) ≡ length es
length_lower n [] = refl
length_lower n (r ∷ rs) = let rest = length_lower n rs in omega (arith, rest)

is_above : (n low : ℕ) → ltb n low ≡ ltb 0 (low - n)
is_above n low = grind (arith, nat_tests)

pub length_lowered : (base low : ℕ) (es : List (ℕ × ℕ)) (more : ℕ) → more ≡ bool_byte (ltb base low) → length es + more ≡ length (with_low (low - base) (lower_ranges base es))
length_lowered base low es more is =
    ap (λ n. n + more) (sym (length_lower base es))
    ∙ length_all (low - base) (lower_ranges base es) more (is ∙ ap bool_byte (is_above base low))

-- ---- how many

count_split : (p : ℕ → Bool) (a m n c : ℕ) → c ≡ a + m → count_by p (numbers a (m + n)) ≡ count_by p (numbers a m) + count_by p (numbers c n)
count_split p a zero n c is =
    let at : a ≡ c = omega (arith, is) in
    let none : 0 + n ≡ n = omega arith in
    let here : count_by p (numbers a (0 + n)) ≡ count_by p (numbers c n) = ap (λ k. count_by p (numbers a k)) none ∙ ap (λ k. count_by p (numbers k n)) at in
    omega (arith, here)
count_split p a (suc m) n c is =
    let one_more : suc m + n ≡ suc (m + n) = omega arith in
    let rest = count_split p (suc a) m n c (omega (arith, is)) in
    let whole : count_by p (numbers a (suc m + n)) ≡ count_by p (numbers a (suc (m + n))) = ap (λ k. count_by p (numbers a k)) one_more in
    omega (arith, whole, sum_by-cons (λ k. one (p k)) a (numbers (suc a) (m + n)), sum_by-cons (λ k. one (p k)) a (numbers (suc a) m), rest)

count_shifted : (p q : ℕ → Bool) (base a c n : ℕ) → c ≡ base + a → ((k : ℕ) → q k ≡ p (base + k)) → count_by p (numbers c n) ≡ count_by q (numbers a n)
count_shifted p q base a c zero is same = refl
count_shifted p q base a c (suc n) is same =
    let rest = count_shifted p q base (suc a) (suc c) n (omega (arith, is)) same in
    let here : one (p c) ≡ one (q a) = ap one (ap p is ∙ sym (same a)) in
    omega (arith, sum_by-cons (λ k. one (p k)) c (numbers (suc c) n), sum_by-cons (λ k. one (q k)) a (numbers (suc a) n), rest, here)

module _ (base : ℕ) (s : set.FinSet nat_cmp) (raised : IsRaised base s) where
  pub count_lowered : (n : ℕ) → count_by (set.contains s) (numbers 0 (base + n)) ≡ base + count_by (set.contains (lowered base s)) (numbers 0 n)
  count_lowered n =
      let all : count_by (set.contains s) (numbers 0 base) ≡ base = count_alike (set.contains s) (λ k. true) 0 base (λ k _ below. raised.below k (omega (arith, below))) ∙ count_all 0 base in
      let later = count_shifted (set.contains s) (set.contains (lowered base s)) base 0 base n (omega arith) (contains_lowered base s) in
      omega (arith, count_split (set.contains s) 0 base n base (omega arith), all, later)

  pub len_lowered : (n : ℕ) → ((k : ℕ) → set.contains s k ≡ true → k < base + n) → (set.len s ≡ base + set.len (lowered base s)) × (set.len (lowered base s) ≤ n)
  len_lowered n within =
      let whole = len_counted s (base + n) within in
      let part = len_counted (lowered base s) n (λ k is_in. omega (arith, within (base + k) (sym (contains_lowered base s k) ∙ is_in))) in
      (omega (arith, whole, part, count_lowered n), omega (arith, part, count_rest (set.contains (lowered base s)) 0 n))

  pub len_small : (limit : ℕ) → 0 < limit → ((k : ℕ) → set.contains s k ≡ true → k + 1 < base + limit) → (set.len s ≡ base + set.len (lowered base s)) × (set.len s < base + limit)
  len_small (suc n) some within =
      let size = len_lowered n (λ k is_in. omega (arith, within k is_in)) in
      (size.0, omega (arith, size.0, size.1))
  len_small zero some within = absurd (omega (arith, some))

  -- ---- what is missing

  reached : (from r : ℕ) → IsNextMissing s from r → base ≤ r
  reached from r next = elim (cases_lt r base) [
    | inl below ↦ absurd (false≢true (sym next.missing ∙ raised.below r below))
    | inr past ↦ past
  ]

  missing_there : (from r : ℕ) → IsNextMissing s from r → set.contains (lowered base s) (r - base) ≡ false
  missing_there from r next =
      let at : base + (r - base) ≡ r = omega (arith, reached from r next) in
      contains_lowered base s (r - base) ∙ ap (set.contains s) at ∙ next.missing

  pub next_lowered : (from r : ℕ) → IsNextMissing s (base + from) r → IsNextMissing (lowered base s) from (r - base)
  next_lowered from r next = record {
    from = omega (arith, next.from);
    missing = missing_there (base + from) r next;
    before = λ k after below. contains_lowered base s k ∙ next.before (base + k) (omega (arith, after)) (omega (arith, below));
  }

  pub first_lowered : (r : ℕ) → IsNextMissing s 0 r → IsNextMissing (lowered base s) 0 (r - base)
  first_lowered r next = record {
    from = omega arith;
    missing = missing_there 0 r next;
    before = λ k after below. contains_lowered base s k ∙ next.before (base + k) (omega arith) (omega (arith, below));
  }

  -- the one before it is in, or it is the first that was asked for
  pub next_within : (from r : ℕ) → from < base + 2 ^ 64 → IsNextMissing s from r → r < base + 2 ^ 64
  next_within from zero few next = omega (arith, few)
  next_within from (suc p) few next = elim (cases_lt from (suc p)) [
    | inl after ↦ let last = raised.within p (next.before p (omega (arith, after)) (omega arith)) in omega (arith, last)
    | inr first ↦ omega (arith, first, few)
  ]
