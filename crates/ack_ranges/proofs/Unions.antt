-- What more numbers make of the ranges: all below an end, or a range behind them.
use Rattle.std.proofs.Common.{◌≡◌, ℕ, zero, suc, ◌<◌, ◌≤◌, ◌+◌, ◌-◌, ◌^◌, List, [], ◌∷◌, ◌++◌, Bool, true, false, refl, ap, ◌∙◌, sym, subst, arith, leb, ltb}
use Rattle.std.specs.Prelude.{◌||◌, ◌&&◌, max}
use Rattle.std.specs.Ordering.{nat_cmp, match_ordering}
use Rattle.std.specs.Cmp.{nat_cmp_total}
use Rattle.std.specs.declared.cmp.Ordering.{Ordering}
use Rattle.std.specs.declared.cmp.Ordering.TheVariants.{Greater}
use Rattle.std.specs.FinSet as set
use Rattle.std.specs.BTreeMap.{insert_entry}
use Rattle.std.proofs.lemmas.Bool.Decides.{nat_tests}
use Rattle.ack_ranges.specs.Kept.{set_of, total, AreSmall, Swallows, Follows}
use Rattle.ack_ranges.specs.Ranges.{from_to, below, RiseAbove, MayFollow}
use Rattle.ack_ranges.proofs.Covers.{covers, contains_set_of, contains_from_to, contains_below, same_numbers, or_second, in_first}
use Rattle.ack_ranges.proofs.Rises.{rise_rest}

-- ---- all below an end

below_low : (k low end : ℕ) (c : Bool) → end ≤ low → (ltb k low || c) ≡ ((ltb k low || c) || ltb k end)
below_low k low end c le = grind (arith, nat_tests)

pub already : (low : ℕ) (es : List (ℕ × ℕ)) (end : ℕ) → end ≤ low → set_of low es ≡ set.union (set_of low es) (below end)
already low es end le = same_numbers _ _ (λ k.
    contains_set_of low es k ∙ below_low k low end (covers es k) le
    ∙ sym (set.contains-union nat_cmp_total (set_of low es) (below end) k ∙ ap (λ b. b || set.contains (below end) k) (contains_set_of low es k) ∙ ap (λ b. (ltb k low || covers es k) || b) (contains_below end k)))

above_low : (k low end : ℕ) (c : Bool) → low ≤ end → (ltb k end || c) ≡ ((ltb k low || c) || ltb k end)
above_low k low end c le = grind (arith, nat_tests)

pub raised : (low : ℕ) (es : List (ℕ × ℕ)) (end : ℕ) → low ≤ end → set_of end es ≡ set.union (set_of low es) (below end)
raised low es end le = same_numbers _ _ (λ k.
    contains_set_of end es k ∙ above_low k low end (covers es k) le
    ∙ sym (set.contains-union nat_cmp_total (set_of low es) (below end) k ∙ ap (λ b. b || set.contains (below end) k) (contains_set_of low es k) ∙ ap (λ b. (ltb k low || covers es k) || b) (contains_below end k)))

swallowed_one : (k to s e m : ℕ) (c : Bool) → s ≤ to → m ≡ max to e → (ltb k m || c) ≡ (ltb k to || ((leb s k && ltb k e) || c))
swallowed_one k to s e m c le is = grind (arith, nat_tests)

swallows_more : (es : List (ℕ × ℕ)) (end : ℕ) (r : ℕ × ℕ) (rs : List (ℕ × ℕ)) (to m count : ℕ) → Swallows es end (r ∷ rs) to count → r.0 ≤ to → m ≡ max to r.1 → Swallows es end rs m (count + (r.1 - r.0))
swallows_more es end r rs to m count was le is = record {
  same = same_numbers _ _ (λ k. contains_set_of m rs k ∙ swallowed_one k to r.0 r.1 m (covers rs k) le is ∙ sym (contains_set_of to (r ∷ rs) k)) ∙ was.same;
  counted = omega (arith, was.counted);
  from = omega (arith, was.from, is);
  to_small = omega (arith, was.to_small, was.small.0, is);
  rise = rise_rest r rs was.rise;
  small = was.small.1;
}

pub swallows_next : (es : List (ℕ × ℕ)) (end : ℕ) (gs : List (ℕ × ℕ)) (r : ℕ × ℕ) (rs : List (ℕ × ℕ)) (to m count : ℕ) → Swallows es end gs to count → gs ≡ r ∷ rs → r.0 ≤ to → m ≡ max to r.1 → Swallows es end rs m (count + (r.1 - r.0))
swallows_next es end gs r rs to m count was first le is = swallows_more es end r rs to m count (subst (λ (ks : List (ℕ × ℕ)). Swallows es end ks to count) first was) le is

-- ---- a range behind

pub covers_push : (es : List (ℕ × ℕ)) (s e q : ℕ) → covers (es ++ (s, e) ∷ []) q ≡ (covers es q || (leb s q && ltb q e))
covers_push [] s e q = or_none (leb s q && ltb q e)
  where
    or_none : (b : Bool) → (b || false) ≡ b
    or_none true = refl
    or_none false = refl
covers_push (r ∷ rs) s e q = ap (λ b. (leb r.0 q && ltb q r.1) || b) (covers_push rs s e q) ∙ regroup (leb r.0 q && ltb q r.1) (covers rs q) (leb s q && ltb q e)
  where
    regroup : (a b c : Bool) → (a || (b || c)) ≡ ((a || b) || c)
    regroup true b c = refl
    regroup false b c = refl

total_push : (es : List (ℕ × ℕ)) (s e : ℕ) → total (es ++ (s, e) ∷ []) ≡ total es + (e - s)
total_push [] s e = omega arith
total_push (r ∷ rs) s e = let rest : total (rs ++ (s, e) ∷ []) ≡ total rs + (e - s) = total_push rs s e in omega (arith, rest)

small_push : (es : List (ℕ × ℕ)) (s e : ℕ) → AreSmall es → e < 2 ^ 128 → AreSmall (es ++ (s, e) ∷ [])
small_push [] s e small few = (few, tt)
small_push (r ∷ rs) s e small few = (small.0, small_push rs s e small.1 few)

pub end_before : (start : ℕ) (r : ℕ × ℕ) (rs : List (ℕ × ℕ)) → r.0 < r.1 → ((k : ℕ) → covers (r ∷ rs) k ≡ true → k + 1 < start) → r.1 < start
end_before start r rs some apart =
    let b : (r.1 - 1) + 1 < start = apart (r.1 - 1) (in_first r.0 r.1 (r.1 - 1) (covers rs (r.1 - 1)) (omega (arith, some)) (omega (arith, some))) in
    omega (arith, b, some)

pub rise_push : (a : ℕ) (es : List (ℕ × ℕ)) (start end : ℕ) → RiseAbove a es → a < start → start < end → ((k : ℕ) → covers es k ≡ true → k + 1 < start) → RiseAbove a (es ++ (start, end) ∷ [])
rise_push a [] start end rise above some apart = (above, some, tt)
rise_push a (r ∷ rs) start end rise above some apart =
    (rise.0, rise.1, rise_push r.1 rs start end rise.2 (end_before start r rs rise.1 apart) some (λ k h. apart k (or_second _ _ h)))

greater_is : (x y : ℕ) → y < x → nat_cmp x y ≡ Greater
greater_is x y h = grind (arith, nat_tests)

insert_last : (a : ℕ) (es : List (ℕ × ℕ)) (start end : ℕ) → RiseAbove a es → ((k : ℕ) → covers es k ≡ true → k + 1 < start) → insert_entry nat_cmp es start end ≡ es ++ (start, end) ∷ []
insert_last a [] start end rise apart = refl
insert_last a (r ∷ rs) start end rise apart =
    let b : r.1 < start = end_before start r rs rise.1 apart in
    let later : insert_entry nat_cmp rs start end ≡ rs ++ (start, end) ∷ [] = insert_last r.1 rs start end rise.2 (λ k h. apart k (or_second _ _ h)) in
    ap (λ (o : Ordering). match_ordering o ((start, end) ∷ r ∷ rs) ((r.0, end) ∷ rs) (r ∷ insert_entry nat_cmp rs start end)) (greater_is start r.0 (omega (arith, b, rise.1))) ∙ ap (λ ys. r ∷ ys) later

module _ (low : ℕ) (es : List (ℕ × ℕ)) (start end : ℕ) (rise : RiseAbove low es) (may : MayFollow (set_of low es) start end) where
  above_all : (k : ℕ) → covers es k ≡ true → k + 1 < start
  above_all k h = may.apart k (contains_set_of low es k ∙ or_second (ltb k low) (covers es k) h)

  pub in_order : insert_entry nat_cmp es start end ≡ es ++ (start, end) ∷ []
  in_order = insert_last low es start end rise above_all

  below_is_in : (k : ℕ) → k < low → set.contains (set_of low es) k ≡ true
  below_is_in k lt = contains_set_of low es k ∙ or_first k low (covers es k) lt
    where
      or_first : (k low : ℕ) (b : Bool) → k < low → (ltb k low || b) ≡ true
      or_first k low b lt = grind (arith, nat_tests)

  low_before : (start ≡ 0 → ⊥) → low < start
  low_before some = by low below_is_in
    where
      by : (n : ℕ) → ((k : ℕ) → k < n → set.contains (set_of low es) k ≡ true) → n < start
      by zero is_in = omega (arith, some)
      by (suc n) is_in = let b : n + 1 < start = may.apart n (is_in n (omega arith)) in omega (arith, b)

  joined_numbers : (k : ℕ) → set.contains (set_of low (es ++ (start, end) ∷ [])) k ≡ set.contains (set.union (set_of low es) (from_to start end)) k
  joined_numbers k =
      contains_set_of low (es ++ (start, end) ∷ []) k ∙ ap (λ b. ltb k low || b) (covers_push es start end k) ∙ regroup (ltb k low) (covers es k) (leb start k && ltb k end)
      ∙ sym (set.contains-union nat_cmp_total (set_of low es) (from_to start end) k ∙ ap (λ b. b || set.contains (from_to start end) k) (contains_set_of low es k) ∙ ap (λ b. (ltb k low || covers es k) || b) (contains_from_to start end k))
    where
      regroup : (a b c : Bool) → (a || (b || c)) ≡ ((a || b) || c)
      regroup true b c = refl
      regroup false b c = refl

  pub follows_last : (start ≡ 0 → ⊥) → low < 2 ^ 128 → AreSmall es → end < 2 ^ 128 → Follows low es start end low (es ++ (start, end) ∷ [])
  follows_last some few small end_few = record {
    same = same_numbers _ _ joined_numbers;
    counted = let b : total (es ++ (start, end) ∷ []) ≡ total es + (end - start) = total_push es start end in omega (arith, b);
    rise = rise_push low es start end rise (low_before some) may.some above_all;
    up_small = few;
    small = small_push es start end small end_few;
  }

only_below : (k end : ℕ) → (ltb k end || false) ≡ ((ltb k 0 || false) || (leb 0 k && ltb k end))
only_below k end = grind (arith, nat_tests)

-- the range from 0 comes where there is nothing yet
pub follows_first : (low : ℕ) (es : List (ℕ × ℕ)) (start end : ℕ) → RiseAbove low es → MayFollow (set_of low es) start end → start ≡ 0 → end < 2 ^ 128 → Follows low es start end end es
follows_first (suc n) es start end rise may zero_is few =
    let b : n + 1 < start = may.apart n (below_is_in (suc n) es start end rise may n (omega arith)) in absurd (omega (arith, b, zero_is))
follows_first zero (r ∷ rs) start end rise may zero_is few =
    let b : r.1 < start = end_before start r rs rise.1 (above_all zero (r ∷ rs) start end rise may) in absurd (omega (arith, b, zero_is))
follows_first zero [] start end rise may zero_is few = record {
  same = same_numbers _ _ (λ k. contains_set_of end [] k ∙ only_below k end ∙ ap (λ n. (ltb k 0 || false) || (leb n k && ltb k end)) (sym zero_is)
      ∙ sym (set.contains-union nat_cmp_total (set_of 0 []) (from_to start end) k ∙ ap (λ b. b || set.contains (from_to start end) k) (contains_set_of 0 [] k) ∙ ap (λ b. (ltb k 0 || false) || b) (contains_from_to start end k)));
  counted = omega (arith, zero_is);
  rise = tt;
  up_small = few;
  small = tt;
}
