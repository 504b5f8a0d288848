-- Sequence numbers of copies: they are the ordinals of the letters.
use Rattle.std.proofs.Common.{◌≡◌, ℕ, ◌<◌, ◌≤◌, List, [], ◌∷◌, ◌++◌, Some, None, Option, Bool, true, false, refl, ap, ap₂, ◌∙◌, arith}
use Rattle.std.specs.Prelude.{ℤ, negsuc, int_le, nat_le, min, ◌^◌, ◌&&◌}
use Rattle.std.specs.List.{AllByRecursion}
use Rattle.std.specs.Option.{unwrap_or, option_map_or}
use Rattle.std.specs.Int.{int_max}
use Rattle.std.proofs.lemmas.Int.{ints}
use Rattle.std.proofs.lemmas.Bool.Decides.{nat_tests}
use Rattle.delivery_machine.specs.Words.{greatest}
use Rattle.dead_letters.specs.Moving.{sequence_of}
use Rattle.dead_letters.specs.Laws.{same_sequence}

above_max : (x a b : ℤ) → int_le x a ≡ false → int_le x b ≡ false → int_le x (int_max a b) ≡ false
above_max x a b e f = grind (arith, ints)

within_left : (x a b : ℤ) → int_le x a ≡ true → int_le x (int_max a b) ≡ true
within_left x a b e = grind (arith, ints)

within_right : (x a b : ℤ) → int_le x b ≡ true → int_le x (int_max a b) ≡ true
within_right x a b e = grind (arith, ints)

itself : (x : ℤ) → int_le x x ≡ true
itself x = grind (arith, ints)

-- a number above all is above the greatest
pub above_greatest : (xs : List ℤ) (base x : ℤ) → AllByRecursion (λ y. int_le x y ≡ false) xs → int_le x base ≡ false → int_le x (unwrap_or (greatest xs) base) ≡ false
above_greatest [] base x all low = low
above_greatest (y ∷ ys) base x all low = by (greatest ys) (above_greatest ys y x all.1 all.0)
  where
    by : (o : Option ℤ) → int_le x (unwrap_or o y) ≡ false → int_le x (option_map_or (int_max y) o y) ≡ false
    by None rest = all.0
    by (Some z) rest = above_max x y z all.0 rest

-- a number of the list is not
pub within_greatest : (xs : List ℤ) (x : ℤ) (ys : List ℤ) (base : ℤ) → int_le x (unwrap_or (greatest (xs ++ x ∷ ys)) base) ≡ true
within_greatest [] x ys base = by (greatest ys)
  where
    by : (o : Option ℤ) → int_le x (option_map_or (int_max x) o x) ≡ true
    by None = itself x
    by (Some z) = within_left x x z (itself x)
within_greatest (w ∷ xs) x ys base = by (greatest (xs ++ x ∷ ys)) (within_greatest xs x ys w)
  where
    by : (o : Option ℤ) → int_le x (unwrap_or o w) ≡ true → int_le x (option_map_or (int_max w) o w) ≡ true
    by None rest = rest
    by (Some z) rest = within_right x w z rest

-- ---- ordinals

pub unbounded : (n : ℕ) → n ≤ 2 ^ 62 → min n 9223372036854775807 ≡ n
unbounded n room = omega arith

below_test : (a b : ℕ) → a < b → nat_le b a ≡ false
below_test a b low = grind (arith, nat_tests)

pub later_sequence : (m n : ℕ) → m < n → n ≤ 2 ^ 62 → int_le (sequence_of n) (sequence_of m) ≡ false
later_sequence m n low room =
    ap₂ (λ a b. nat_le a b) (unbounded n room) (unbounded m (omega arith)) ∙ below_test m n low

pub above_none : (n : ℕ) → int_le (sequence_of n) (negsuc 0) ≡ false
above_none n = refl

pub one_sequence : (n : ℕ) → same_sequence (sequence_of n) (sequence_of n) ≡ true
one_sequence n = ap (λ b. b && b) (itself (sequence_of n))

pub other_sequence : (m n : ℕ) → m < n → n ≤ 2 ^ 62 → same_sequence (sequence_of m) (sequence_of n) ≡ false
other_sequence m n low room = ap (λ b. int_le (sequence_of m) (sequence_of n) && b) (later_sequence m n low room) ∙ neither (int_le (sequence_of m) (sequence_of n))
  where
    neither : (b : Bool) → (b && false) ≡ false
    neither true = refl
    neither false = refl

pub other_sequence_after : (m n : ℕ) → m < n → n ≤ 2 ^ 62 → same_sequence (sequence_of n) (sequence_of m) ≡ false
other_sequence_after m n low room = ap (λ b. b && int_le (sequence_of m) (sequence_of n)) (later_sequence m n low room)
