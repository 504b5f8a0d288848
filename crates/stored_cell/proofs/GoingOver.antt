-- How a kept log goes over into one from whose front more messages are gone.
use Rattle.std.proofs.Common.{◌≡◌, ℕ, zero, suc, ◌+◌, ◌-◌, ◌≤◌, ◌++◌, List, [], ◌∷◌, drop, length, length-append, length-drop, drop-drop, ap, refl, subst, arith}
use mathlib.Core.List.{IsPrefix}
use base.Growing.{prefix_trans, prefix_refl}

pub prefix_dropped : {A : Type 0} (n : ℕ) (xs ys : List A) → IsPrefix xs ys → IsPrefix (drop n xs) (drop n ys)
prefix_dropped zero xs ys p = p
prefix_dropped (suc n) [] ys p = (drop (suc n) ys, refl)
prefix_dropped (suc n) (x ∷ xs) ys p = subst (λ zs. IsPrefix (drop n xs) (drop (suc n) zs)) p.1 (prefix_dropped n xs (xs ++ p.0) (p.0, refl))

prefix_shorter : {A : Type 0} (xs ys : List A) → IsPrefix xs ys → length xs ≤ length ys
prefix_shorter xs ys p = let whole = ap length p.1 in omega (arith, whole, length-append xs p.0)

-- where no more are gone
pub goes_same : {A : Type 0} (gone : ℕ) (log : List A) → IsPrefix (drop (gone - gone) log) log
goes_same gone log = subst (λ n. IsPrefix (drop n log) log) (let none : 0 ≡ gone - gone = omega arith in none) (prefix_refl log)

-- first some go, and then more
pub goes_further : {A : Type 0} (was gone went now : ℕ) (kept log later : List A) → was ≤ gone → now ≡ gone + went
    → IsPrefix (drop (gone - was) kept) log → IsPrefix (drop went log) later → IsPrefix (drop (now - was) kept) later
goes_further was gone went now kept log later low sum first then =
    let all : gone - was + went ≡ now - was = omega (arith, low, sum) in
    subst (λ n. IsPrefix (drop n kept) later) all
    (subst (λ rest. IsPrefix rest later) (drop-drop went (gone - was) kept)
    (prefix_trans (drop went (drop (gone - was) kept)) (drop went log) later (prefix_dropped went (drop (gone - was) kept) log first) then))

-- what is durable is of the log, where what is kept reaches as far
pub reaches_within : {A : Type 0} (was gone durable : ℕ) (kept log : List A) → was ≤ gone → IsPrefix (drop (gone - was) kept) log
    → gone + durable ≤ was + length kept → durable ≤ length log
reaches_within was gone durable kept log low over far =
    let short = prefix_shorter (drop (gone - was) kept) log over in
    omega (arith, low, far, short, length-drop (gone - was) kept)
