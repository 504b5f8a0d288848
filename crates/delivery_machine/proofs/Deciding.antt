-- Tests of two parts, of numbers, and of refusals.
use Rattle.std.proofs.Common.{◌≡◌, ℕ, ◌<◌, ◌≤◌, Bool, true, false, refl, ap, ◌∙◌, arith, true≢false, sym, Some, None}
use Rattle.std.specs.Prelude.{not, ◌&&◌, ◌||◌, ◌==◌, nat_lt, if◌then◌else◌}
use Rattle.std.proofs.lemmas.Bool.Decides.{nat_tests}

pub and_first : (a b : Bool) → (a && b) ≡ true → a ≡ true
and_first true b e = refl
and_first false b e = e

pub and_second : (a b : Bool) → (a && b) ≡ true → b ≡ true
and_second true b e = e
and_second false true e = refl
and_second false false e = e

pub or_false : (a b : Bool) → (a || b) ≡ false → (a ≡ false) × (b ≡ false)
or_false true b e = absurd (true≢false e)
or_false false b e = (refl, e)

pub or_second : (a b : Bool) → b ≡ true → (a || b) ≡ true
or_second true b e = refl
or_second false b e = e

pub both_false : (a b : Bool) → a ≡ false → b ≡ false → (a || b) ≡ false
both_false a b e f = ap (λ c. c || b) e ∙ f

pub itself : (n : ℕ) → (n == n) ≡ true
itself n = grind (arith, nat_tests)

pub number_is : (a b : ℕ) → (a == b) ≡ true → a ≡ b
number_is a b e = grind (arith, nat_tests)

pub apart_below : (a b : ℕ) → a < b → (a == b) ≡ false
apart_below a b low = grind (arith, nat_tests)

pub apart_above : (a b : ℕ) → b < a → (a == b) ≡ false
apart_above a b low = grind (arith, nat_tests)

pub none_below : (n : ℕ) → nat_lt 0 n ≡ false → n ≡ 0
none_below n e = grind (arith, nat_tests)

pub within : (most n : ℕ) → nat_lt most n ≡ false → n ≤ most
within most n e = grind (arith, nat_tests)

-- what fails turned about
pub turned : (b : Bool) → not b ≡ true → b ≡ false
turned true e = absurd (true≢false (sym e))
turned false e = refl

-- where a test alone keeps from a refusal, it holds where nothing is refused
pub holds_unless_refused : {A : Type 0} (b : Bool) (fault : A) → (if b then None else Some fault) ≡ None → b ≡ true
holds_unless_refused true fault e = refl
holds_unless_refused false fault e = cc
