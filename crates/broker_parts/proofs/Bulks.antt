-- How many bytes messages have, one after the other.
use Rattle.std.proofs.Common.{◌≡◌, ℕ, zero, suc, ◌+◌, ◌*◌, ◌≤◌, Bool, true, false, ◌&&◌, IsTrue, List, [], ◌∷◌, ◌++◌, length, map, take, sum_by, Option, Some, None, refl, sym, ap, ◌∙◌, arith, nat_le, slice_get, get_or}
use Rattle.std.specs.List.{list_all}
use Rattle.std.specs.Option.{option_flatten}
use Rattle.std.proofs.lemmas.List.{map_more}
use Rattle.std.proofs.lemmas.Option.{slice_get_within, slice_get-get_or}
use Rattle.std.proofs.lemmas.List.Sums.{sum_by-cons}
use Rattle.position_core.specs.Properties.{fits, are_properties}
use Rattle.broker_parts.specs.Bulks.{property_size}

-- ---- properties

both : (a b : Bool) → (a && b) ≡ true → (a ≡ true) × (b ≡ true)
both true b h = (refl, h)
both false b h = absurd cc

one_within : (p : List ℕ × List ℕ) → fits p ≡ true → property_size p ≤ 1279
one_within p within =
    let limits = both (nat_le (length p.0) 255) (nat_le (length p.1) 1024) within in
    let name : length p.0 ≤ 255 = search (arith, limits.0) in
    let value : length p.1 ≤ 1024 = search (arith, limits.1) in
    omega arith

all_within : (pairs : List (List ℕ × List ℕ)) → list_all fits pairs ≡ true → sum_by property_size pairs ≤ length pairs * 1279
all_within [] within = omega arith
all_within (p ∷ pairs) within =
    let each = both (fits p) (list_all fits pairs) within in
    omega (arith, one_within p each.0, all_within pairs each.1, sum_by-cons property_size p pairs)

-- the bytes of properties are few
pub few_bytes : (pairs : List (List ℕ × List ℕ)) → IsTrue (are_properties pairs) → sum_by property_size pairs ≤ 81856
few_bytes pairs within =
    let limits = both (nat_le (length pairs) 64) (list_all fits pairs) within in
    let many : length pairs ≤ 64 = search (arith, limits.0) in
    omega (arith, many, all_within pairs limits.1)

-- ---- seats

-- one more seat, at which nobody is
pub one_seat_more : {A : Type 0} (seats : List (Option A)) (other : ℕ) → option_flatten (slice_get (seats ++ None ∷ []) other) ≡ option_flatten (slice_get seats other)
one_seat_more [] zero = refl
one_seat_more [] (suc other) = refl
one_seat_more (seat ∷ seats) zero = refl
one_seat_more (seat ∷ seats) (suc other) = one_seat_more seats other

-- ---- messages

-- one more message of the log
pub one_more : {A B : Type 0} (f : A → B) (xs : List A) (ys zs : List B) (i : ℕ) (x : A) → Some x ≡ slice_get xs i → ys ≡ map f (take i xs) → zs ≡ ys ++ f x ∷ [] → zs ≡ map f (take (i + 1) xs)
one_more f xs ys zs i x at before more =
    let below = slice_get_within xs i x (sym at) in
    let there = slice_get-get_or xs i x below in
    let same : x ≡ get_or xs i x = cc (at, there) in
    more ∙ ap (λ ys. ys ++ f x ∷ []) before ∙ ap (λ y. map f (take i xs) ++ f y ∷ []) same ∙ sym (map_more f xs i x below)
