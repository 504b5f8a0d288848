-- Texts of digits, and their numbers.
use Rattle.std.proofs.Common.{◌≡◌, ℕ, ◌<◌, ◌≤◌, ◌^◌, List, [], ◌∷◌, length, true, false, IfSome, rules, arith, inl, inr}
use Rattle.std.specs.Prelude.{◌==◌}
use Rattle.std.proofs.lemmas.Bool.{cases_lt}
use Rattle.std.specs.Prelude.{Result, Err}
use Rattle.std.specs.List.{list_all}
use Rattle.std.specs.Char.{is_ascii_digit}
use Rattle.std.specs.Str.Parse.{digits_value, ParsesUnsigned}
use Rattle.std.proofs.lemmas.Bool.Decides.{nat_tests}
use Rattle.std.proofs.lemmas.Result.{OkIff-at_err}
use Rattle.std.proofs.lemmas.Str.Parse.{IsNumeralModel, numerals_by_value, parse_digits}
use Rattle.endpoint_core.specs.Numbers.{number_of}

own : IsNumeralModel (λ ds. list_all is_ascii_digit ds ≡ true) (digits_value 10)
own = numerals_by_value _ (search rules)

at_least : (n : ℕ) → (n < 2 ^ 64 → ⊥) → 2 ^ 64 ≤ n
at_least n not = elim (cases_lt n (2 ^ 64)) [ inl below ↦ absurd (not below) | inr above ↦ above ]

large : (bs : List ℕ) → list_all is_ascii_digit bs ≡ true → ((0 < length bs) × (digits_value 10 bs < 2 ^ 64) → ⊥) → IfSome (number_of bs) (λ n. 2 ^ 64 ≤ n)
large [] digits not = search rules
large (b ∷ bs) digits not =
    let some : (length (b ∷ bs) == 0) ≡ false = grind (arith, nat_tests) in
    rw (some, digits) (at_least (digits_value 10 (b ∷ bs)) (λ below. not (omega arith, below)))

-- where digits are not parsed, they are none, or write a number of more than 64 bits
pub beyond : {E : Type 0} (bs : List ℕ) (r : Result ℕ E) (e : E) → list_all is_ascii_digit bs ≡ true → ParsesUnsigned 64 10 bs r → r ≡ Err e → IfSome (number_of bs) (λ n. 2 ^ 64 ≤ n)
beyond bs r e digits parses is = large bs digits (OkIff-at_err r _ _ e (parse_digits own 64 bs r parses digits) is)
