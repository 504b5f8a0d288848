-- How many numbers the ranges have.
use Rattle.std.proofs.Common.{◌≡◌, ℕ, zero, suc, ◌<◌, ◌≤◌, ◌+◌, ◌-◌, ◌^◌, List, [], ◌∷◌, ◌++◌, Bool, false, cond, refl, ap, ◌∙◌, arith, leb, ltb}
use Rattle.std.specs.Prelude.{◌||◌, ◌&&◌}
use Rattle.std.specs.Ordering.{nat_cmp}
use Rattle.std.specs.Cmp.{nat_cmp_total}
use Rattle.std.specs.FinSet as set
use Rattle.std.proofs.lemmas.Bool.Decides.{nat_tests}
use Rattle.ack_ranges.specs.Kept.{set_of, total, AreSmall}
use Rattle.ack_ranges.specs.Ranges.{numbers, spread, RiseAbove}
use Rattle.ack_ranges.proofs.Covers.{has, has-append, covers, has_spread_is, has_numbers_is}

-- nothing below the ranges is in them
past : (s e q : ℕ) (b : Bool) → q < s → b ≡ false → ((leb s q && ltb q e) || b) ≡ false
past s e q b lt h = grind (arith, nat_tests)

pub above_covers : (a : ℕ) (es : List (ℕ × ℕ)) (q : ℕ) → RiseAbove a es → q ≤ a → covers es q ≡ false
above_covers a [] q rise le = refl
above_covers a (r ∷ rs) q rise le = past r.0 r.1 q _ (omega (arith, le, rise.0)) (above_covers r.1 rs q rise.2 (omega (arith, le, rise.0, rise.1)))

abbrev pub size : List ℕ → ℕ
size ks = set.len (set.from_list {R = nat_cmp} ks)

pub size_new : (k : ℕ) (ks : List ℕ) → has k ks ≡ false → size (k ∷ ks) ≡ size ks + 1
size_new k ks h = set.len-insert nat_cmp_total (set.from_list ks) k ∙ ap (λ b. cond b (size ks) (size ks + 1)) (set.contains-from_list_nat ks k ∙ h)

first_out : (a n : ℕ) (b : Bool) → b ≡ false → ((leb (suc a) a && ltb a (suc a + n)) || b) ≡ false
first_out a n b h = grind (arith, nat_tests)

size_numbers : (a n : ℕ) (ks : List ℕ) → ((k : ℕ) → a ≤ k → k < a + n → has k ks ≡ false) → size (numbers a n ++ ks) ≡ n + size ks
size_numbers a zero ks out = omega arith
size_numbers a (suc n) ks out =
    let rest : size (numbers (suc a) n ++ ks) ≡ n + size ks = size_numbers (suc a) n ks (λ k from to. out k (omega (arith, from)) (omega (arith, to))) in
    let new : has a (numbers (suc a) n ++ ks) ≡ false = has-append a (numbers (suc a) n) ks ∙ ap (λ b. b || has a ks) (has_numbers_is (suc a) n a) ∙ first_out a n (has a ks) (out a (omega arith) (omega arith)) in
    let one : size (a ∷ numbers (suc a) n ++ ks) ≡ size (numbers (suc a) n ++ ks) + 1 = size_new a (numbers (suc a) n ++ ks) new in
    omega (arith, rest, one)

size_spread : (a : ℕ) (es : List (ℕ × ℕ)) → RiseAbove a es → size (spread es) ≡ total es
size_spread a [] rise = set.len-empty nat_cmp
size_spread a (r ∷ rs) rise =
    let rest : size (spread rs) ≡ total rs = size_spread r.1 rs rise.2 in
    let here : size (numbers r.0 (r.1 - r.0) ++ spread rs) ≡ (r.1 - r.0) + size (spread rs) = size_numbers r.0 (r.1 - r.0) (spread rs) (λ k from to. has_spread_is rs k ∙ above_covers r.1 rs k rise.2 (omega (arith, to, rise.1))) in
    omega (arith, rest, here)

pub size_set_of : (low : ℕ) (es : List (ℕ × ℕ)) → RiseAbove low es → set.len (set_of low es) ≡ low + total es
size_set_of low es rise =
    let rest : size (spread es) ≡ total es = size_spread low es rise in
    let here : size (numbers 0 low ++ spread es) ≡ low + size (spread es) = size_numbers 0 low (spread es) (λ k from to. has_spread_is es k ∙ above_covers low es k rise (omega (arith, to))) in
    omega (arith, rest, here)

pub size_small : (a : ℕ) (es : List (ℕ × ℕ)) → a < 2 ^ 128 → AreSmall es → RiseAbove a es → a + total es < 2 ^ 128
size_small a [] few small rise = omega (arith, few)
size_small a (r ∷ rs) few small rise =
    let rest : r.1 + total rs < 2 ^ 128 = size_small r.1 rs small.0 small.1 rise.2 in
    omega (arith, rest, rise.0, rise.1)

-- one more number
size_insert : (s : set.FinSet nat_cmp) (q : ℕ) → set.contains s q ≡ false → set.len (set.insert s q) ≡ set.len s + 1
size_insert s q out = set.len-insert nat_cmp_total s q ∙ ap (λ b. cond b (set.len s) (set.len s + 1)) out

pub one_more : (low : ℕ) (es : List (ℕ × ℕ)) (q up : ℕ) (fs : List (ℕ × ℕ)) → RiseAbove low es → RiseAbove up fs → set.contains (set_of low es) q ≡ false → set_of up fs ≡ set.insert (set_of low es) q → up + total fs ≡ low + total es + 1
one_more low es q up fs rise risen out same =
    let before : set.len (set_of low es) ≡ low + total es = size_set_of low es rise in
    let after : set.len (set_of up fs) ≡ up + total fs = size_set_of up fs risen in
    let grown : set.len (set_of up fs) ≡ set.len (set_of low es) + 1 = ap set.len same ∙ size_insert (set_of low es) q out in
    omega (arith, before, after, grown)
