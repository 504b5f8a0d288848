-- How many numbers of a set stand below one, or from one on.
use Rattle.std.proofs.Common.{◌≡◌, ℕ, zero, suc, ◌<◌, ◌≤◌, ◌+◌, ◌-◌, ◌^◌, List, [], ◌∷◌, ◌++◌, Bool, true, false, cond, refl, ap, sym, ◌∙◌, subst, inl, inr, arith, leb, ltb, true≢false}
use Rattle.std.specs.Prelude.{◌||◌, ◌&&◌, max, min, nat_eq, not}
use Rattle.std.specs.List.{count_by, filter}
use Rattle.std.specs.Ordering.{nat_cmp}
use Rattle.std.specs.FinSet as set
use Rattle.std.proofs.lemmas.Bool.{cases_lt}
use Rattle.std.proofs.lemmas.Bool.Decides.{nat_tests}
use Rattle.std.proofs.lemmas.List.Sums.{sum_by-cons}
use Rattle.ack_ranges.specs.Kept.{set_of, total, total_from, AreSmall}
use Rattle.ack_ranges.specs.Ranges.{numbers, RiseAbove}
use Rattle.ack_ranges.proofs.Covers.{has, has_numbers_is, same_numbers, covers, contains_set_of}
use Rattle.ack_ranges.proofs.Sizes.{above_covers, size, size_new, size_set_of, size_small}

-- ---- counts over a row of numbers

abbrev pub one : Bool → ℕ
one b = cond b 1 0

pub count_alike : (p q : ℕ → Bool) (a n : ℕ) → ((k : ℕ) → a ≤ k → k < a + n → p k ≡ q k) → count_by p (numbers a n) ≡ count_by q (numbers a n)
count_alike p q a zero same = refl
count_alike p q a (suc n) same =
    let rest = count_alike p q (suc a) n (λ k from below. same k (omega arith) (omega arith)) in
    let here : one (p a) ≡ one (q a) = ap one (same a (omega arith) (omega arith)) in
    omega (arith, sum_by-cons (λ k. one (p k)) a (numbers (suc a) n), sum_by-cons (λ k. one (q k)) a (numbers (suc a) n), rest, here)

one_of_both : (b : Bool) → one (not b) + one b ≡ 1
one_of_both true = refl
one_of_both false = refl

pub count_rest : (p : ℕ → Bool) (a n : ℕ) → count_by (λ k. not (p k)) (numbers a n) + count_by p (numbers a n) ≡ n
count_rest p a zero = refl
count_rest p a (suc n) =
    let rest = count_rest p (suc a) n in
    omega (arith, sum_by-cons (λ k. one (not (p k))) a (numbers (suc a) n), sum_by-cons (λ k. one (p k)) a (numbers (suc a) n), rest, one_of_both (p a))

pub count_all : (a n : ℕ) → count_by (λ k. true) (numbers a n) ≡ n
count_all a zero = refl
count_all a (suc n) =
    let rest = count_all (suc a) n in
    omega (arith, sum_by-cons (λ k. one true) a (numbers (suc a) n), rest)

-- ---- the numbers of a set, counted

and_false : (b : Bool) → (b && false) ≡ false
and_false true = refl
and_false false = refl

and_true : (b : Bool) → (b && true) ≡ b
and_true true = refl
and_true false = refl

is_eq : (k q : ℕ) → nat_eq k q ≡ true → k ≡ q
is_eq k q test = grind (arith, nat_tests)

has_filter : (p : ℕ → Bool) (q : ℕ) (ks : List ℕ) → has q (filter p ks) ≡ (has q ks && p q)
has_filter p q [] = refl
has_filter p q (k ∷ ks) = by (has_filter p q ks) (nat_eq k q) refl
  where
    here : (f : List ℕ) (b : Bool) → nat_eq k q ≡ true → has q f ≡ (has q ks && b) → has q (cond b (k ∷ f) f) ≡ b
    here f true same rest = ap (λ t. t || has q f) same
    here f false same rest = rest ∙ and_false (has q ks)

    later : (f : List ℕ) (b : Bool) → nat_eq k q ≡ false → has q (cond b (k ∷ f) f) ≡ has q f
    later f true differ = ap (λ t. t || has q f) differ
    later f false differ = refl

    by : has q (filter p ks) ≡ (has q ks && p q) → (b : Bool) → nat_eq k q ≡ b → has q (filter p (k ∷ ks)) ≡ (has q (k ∷ ks) && p q)
    by rest true same =
        ap (λ b. has q (cond b (k ∷ filter p ks) (filter p ks))) (ap p (is_eq k q same))
        ∙ here (filter p ks) (p q) same rest ∙ sym (ap (λ t. (t || has q ks) && p q) same)
    by rest false differ = later (filter p ks) (p k) differ ∙ rest ∙ sym (ap (λ t. (t || has q ks) && p q) differ)

not_later : (a n : ℕ) (b : Bool) → ((leb (suc a) a && ltb a (suc a + n)) && b) ≡ false
not_later a n b = grind (arith, nat_tests)

size_filter : (p : ℕ → Bool) (a n : ℕ) → size (filter p (numbers a n)) ≡ count_by p (numbers a n)
size_filter p a zero = set.len-empty nat_cmp
size_filter p a (suc n) =
    let rest = size_filter p (suc a) n in
    let here = by (p a) (filter p (numbers (suc a) n)) (has_filter p a (numbers (suc a) n) ∙ ap (λ b. b && p a) (has_numbers_is (suc a) n a) ∙ not_later a n (p a)) in
    omega (arith, sum_by-cons (λ k. one (p k)) a (numbers (suc a) n), rest, here)
  where
    by : (b : Bool) (f : List ℕ) → has a f ≡ false → size (cond b (a ∷ f) f) ≡ one b + size f
    by true f new = let e = size_new a f new in omega (arith, e)
    by false f new = omega arith

-- a set of numbers below n
pub len_counted : (s : set.FinSet nat_cmp) (n : ℕ) → ((k : ℕ) → set.contains s k ≡ true → k < n) → set.len s ≡ count_by (set.contains s) (numbers 0 n)
len_counted s n below = ap set.len whole ∙ size_filter (set.contains s) 0 n
  where
    inside : (q : ℕ) → q < n → (leb 0 q && ltb q (0 + n)) ≡ true
    inside q low = grind (arith, nat_tests)

    by : (q : ℕ) (b : Bool) → set.contains s q ≡ b → b ≡ ((leb 0 q && ltb q (0 + n)) && b)
    by q true is = sym (ap (λ t. t && true) (inside q (below q is)))
    by q false is = sym (and_false (leb 0 q && ltb q (0 + n)))

    whole : s ≡ set.from_list (filter (set.contains s) (numbers 0 n))
    whole = same_numbers s (set.from_list (filter (set.contains s) (numbers 0 n))) (λ q.
        by q (set.contains s q) refl
        ∙ sym (set.contains-from_list_nat (filter (set.contains s) (numbers 0 n)) q ∙ has_filter (set.contains s) q (numbers 0 n) ∙ ap (λ t. t && set.contains s q) (has_numbers_is 0 n q)))

-- ---- the ranges below a number

-- without what stands from the end on
abbrev clipped : ℕ → List (ℕ × ℕ) → List (ℕ × ℕ)
clipped end [] = []
clipped end (r ∷ rs) = cond (ltb r.0 end) ((r.0, min r.1 end) ∷ clipped end rs) []

weaker : (a b : ℕ) (es : List (ℕ × ℕ)) → a ≤ b → RiseAbove b es → RiseAbove a es
weaker a b [] le rise = tt
weaker a b (r ∷ rs) le rise = (omega (arith, le, rise.0), rise.1, rise.2)

tests_true : (q n : ℕ) → q < n → ltb q n ≡ true
tests_true q n low = grind (arith, nat_tests)

tests_false : (q n : ℕ) → n ≤ q → ltb q n ≡ false
tests_false q n high = grind (arith, nat_tests)

is_below : (q n : ℕ) → ltb q n ≡ true → q < n
is_below q n test = grind (arith, nat_tests)

is_from : (q n : ℕ) → ltb q n ≡ false → n ≤ q
is_from q n test = grind (arith, nat_tests)

rise_clipped : (a end : ℕ) (es : List (ℕ × ℕ)) → RiseAbove a es → RiseAbove a (clipped end es)
rise_clipped a end [] rise = tt
rise_clipped a end (r ∷ rs) rise = by (rise_clipped r.1 end rs rise.2) (ltb r.0 end) refl
  where
    by : RiseAbove r.1 (clipped end rs) → (b : Bool) → ltb r.0 end ≡ b → RiseAbove a (cond b ((r.0, min r.1 end) ∷ clipped end rs) [])
    by rest true test =
        let low = is_below r.0 end test in
        (rise.0, omega (arith, low, rise.1), weaker (min r.1 end) r.1 (clipped end rs) (omega arith) rest)
    by rest false test = tt

covers_clipped : (a end : ℕ) (es : List (ℕ × ℕ)) (k : ℕ) → RiseAbove a es → covers (clipped end es) k ≡ (covers es k && ltb k end)
covers_clipped a end [] k rise = refl
covers_clipped a end (r ∷ rs) k rise = by (covers_clipped r.1 end rs k rise.2) (ltb r.0 end) refl
  where
    cut : (s e : ℕ) (b : Bool) → ((leb s k && ltb k (min e end)) || (b && ltb k end)) ≡ (((leb s k && ltb k e) || b) && ltb k end)
    cut s e true = grind (arith, nat_tests)
    cut s e false = grind (arith, nat_tests)

    by : covers (clipped end rs) k ≡ (covers rs k && ltb k end) → (b : Bool) → ltb r.0 end ≡ b → covers (cond b ((r.0, min r.1 end) ∷ clipped end rs) []) k ≡ (covers (r ∷ rs) k && ltb k end)
    by rest true test = ap (λ b. (leb r.0 k && ltb k (min r.1 end)) || b) rest ∙ cut r.0 r.1 (covers rs k)
    by rest false test = elim (cases_lt k end) [
      | inl low ↦
          let before : k < r.0 = omega (arith, low, is_from r.0 end test) in
          let out : covers (r ∷ rs) k ≡ false = above_covers k (r ∷ rs) k (before, rise.1, rise.2) (omega arith) in
          sym (ap (λ b. b && ltb k end) out)
      | inr high ↦ sym (ap (λ b. covers (r ∷ rs) k && b) (tests_false k end high) ∙ and_false (covers (r ∷ rs) k))
    ]

total_all : (a end : ℕ) (es : List (ℕ × ℕ)) → RiseAbove a es → end ≤ a → total_from end es ≡ total es
total_all a end [] rise le = refl
total_all a end (r ∷ rs) rise le =
    let rest = total_all r.1 end rs rise.2 (omega (arith, le, rise.0, rise.1)) in
    omega (arith, rest, le, rise.0)

total_clipped : (a end : ℕ) (es : List (ℕ × ℕ)) → RiseAbove a es → total (clipped end es) + total_from end es ≡ total es
total_clipped a end [] rise = refl
total_clipped a end (r ∷ rs) rise = by (total_clipped r.1 end rs rise.2) (ltb r.0 end) refl
  where
    by : total (clipped end rs) + total_from end rs ≡ total rs → (b : Bool) → ltb r.0 end ≡ b → total (cond b ((r.0, min r.1 end) ∷ clipped end rs) []) + total_from end (r ∷ rs) ≡ total (r ∷ rs)
    by rest true test =
        let low = is_below r.0 end test in
        omega (arith, rest, low, rise.1)
    by rest false test =
        let high = is_from r.0 end test in
        let all = total_all r.1 end rs rise.2 (omega (arith, high, rise.1)) in
        omega (arith, all, high)

pub total_within : (a end : ℕ) (es : List (ℕ × ℕ)) → RiseAbove a es → total_from end es ≤ total es
total_within a end es rise = let e = total_clipped a end es rise in omega (arith, e)

pub counted_below : (low end count : ℕ) (es : List (ℕ × ℕ)) → RiseAbove low es → low ≤ end → count ≡ low + total es → count - total_from end es ≡ count_by (set.contains (set_of low es)) (numbers 0 end)
counted_below low end count es rise le is =
    let few = size_set_of low (clipped end es) (rise_clipped low end es rise) in
    let parts = total_clipped low end es rise in
    let counted = len_counted (set_of low (clipped end es)) end below in
    let same = count_alike (set.contains (set_of low (clipped end es))) (set.contains (set_of low es)) 0 end alike in
    omega (arith, few, parts, counted, same, is)
  where
    contained : (k : ℕ) → set.contains (set_of low (clipped end es)) k ≡ (ltb k low || (covers es k && ltb k end))
    contained k = contains_set_of low (clipped end es) k ∙ ap (λ b. ltb k low || b) (covers_clipped low end es k rise)

    below : (k : ℕ) → set.contains (set_of low (clipped end es)) k ≡ true → k < end
    below k is = elim (cases_lt k end) [
      | inl before ↦ before
      | inr beyond ↦ absurd (true≢false (sym is ∙ contained k ∙ ap (λ b. b || (covers es k && ltb k end)) (tests_false k low (omega (arith, le, beyond))) ∙ ap (λ b. covers es k && b) (tests_false k end beyond) ∙ and_false (covers es k)))
    ]

    alike : (k : ℕ) → 0 ≤ k → k < 0 + end → set.contains (set_of low (clipped end es)) k ≡ set.contains (set_of low es) k
    alike k from before =
        contained k
        ∙ ap (λ b. ltb k low || (covers es k && b)) (tests_true k end (omega (arith, before)))
        ∙ ap (λ b. ltb k low || b) (and_true (covers es k))
        ∙ sym (contains_set_of low es k)

pub all_below : (low end : ℕ) (es : List (ℕ × ℕ)) → end ≤ low → end ≡ count_by (set.contains (set_of low es)) (numbers 0 end)
all_below low end es le = sym (count_alike (set.contains (set_of low es)) (λ k. true) 0 end inside ∙ count_all 0 end)
  where
    inside : (k : ℕ) → 0 ≤ k → k < 0 + end → set.contains (set_of low es) k ≡ true
    inside k from before = contains_set_of low es k ∙ ap (λ b. b || covers es k) (tests_true k low (omega (arith, le, before)))

-- ---- from the last range on

pub record IsCounted (from : ℕ) (es left : List (ℕ × ℕ)) (low count : ℕ) : Type 0 where
  pub same : count + total_from from left ≡ total_from from es
  pub rise : RiseAbove low left

total_push : (from : ℕ) (left : List (ℕ × ℕ)) (r : ℕ × ℕ) → total_from from (left ++ r ∷ []) ≡ total_from from left + (r.1 - max r.0 from)
total_push from [] r = omega arith
total_push from (t ∷ left) r = let rest = total_push from left r in omega (arith, rest)

rise_front : (low : ℕ) (left : List (ℕ × ℕ)) (r : ℕ × ℕ) → RiseAbove low (left ++ r ∷ []) → RiseAbove low left
rise_front low [] r rise = tt
rise_front low (t ∷ left) r rise = (rise.0, rise.1, rise_front t.1 left r rise.2)

no_more : (low from : ℕ) (left : List (ℕ × ℕ)) (r : ℕ × ℕ) → RiseAbove low (left ++ r ∷ []) → r.1 ≤ from → (total_from from (left ++ r ∷ []) ≡ 0) × (low < r.1)
no_more low from [] r rise le = (omega (arith, le), omega (arith, rise.0, rise.1))
no_more low from (t ∷ left) r rise le =
    let rest = no_more t.1 from left r rise.2 le in
    (omega (arith, rest.0, rest.1, le), omega (arith, rest.1, rise.0, rise.1))

pub counts_first : (low from : ℕ) (es : List (ℕ × ℕ)) → RiseAbove low es → IsCounted from es es low 0
counts_first low from es rise = record { same = omega arith; rise = rise }

module _ (from : ℕ) (es old left : List (ℕ × ℕ)) (r : ℕ × ℕ) (low count : ℕ) (so_far : IsCounted from es old low count) (last : old ≡ left ++ r ∷ []) where
  parts : total_from from old ≡ total_from from left + (r.1 - max r.0 from)
  parts = ap (total_from from) last ∙ total_push from left r

  rises : RiseAbove low (left ++ r ∷ [])
  rises = subst (λ (rs : List (ℕ × ℕ)). RiseAbove low rs) last so_far.rise

  pub counts_on : (m : ℕ) → m ≡ max r.0 from → IsCounted from es left low (count + (r.1 - m))
  counts_on m is = record { same = omega (arith, so_far.same, parts, is); rise = rise_front low left r rises }

  pub counts_out : r.1 ≤ from → count ≡ total_from from es
  counts_out le = omega (arith, so_far.same, ap (total_from from) last, (no_more low from left r rises le).0)

  last_some : (low : ℕ) (left : List (ℕ × ℕ)) → RiseAbove low (left ++ r ∷ []) → r.0 < r.1
  last_some low [] rise = rise.1
  last_some low (t ∷ left) rise = last_some t.1 left rise.2

  pub longest : (m : ℕ) → m ≡ max r.0 from → from < r.1 → m ≤ r.1
  longest m is lt = omega (arith, is, lt, last_some low left rises)

  pub counts_fit : (m : ℕ) → m ≡ max r.0 from → RiseAbove low es → AreSmall es → low < 2 ^ 128 → count + (r.1 - m) < 2 ^ 128
  counts_fit m is rise small low_small = omega (arith, so_far.same, parts, is, total_within low from es rise, size_small low es low_small small rise)

pub counts_ended : (from : ℕ) (es left : List (ℕ × ℕ)) (low count : ℕ) → IsCounted from es left low count → left ≡ [] → count ≡ total_from from es
counts_ended from es left low count so_far none = omega (arith, so_far.same, ap (total_from from) none)
