use Rattle.std.proofs.Common.{◌≡◌, ◌+◌, ◌*◌, ◌/◌, ◌<◌, ◌^◌, sym, ◌∙◌, arith}
use Rattle.std.proofs.lemmas.Fmt.{decimal_injective}
use Rattle.value_texts.specs.Decimals.{IsNumber}
use Rattle.value_texts.proofs.LastDigits.{empty_is_none, digit_ends, front_is, one_digit, more_digits, last_digit}
use Rattle.value_texts.proofs.LastDigits.{Finds-from_SomeIff, some_length, no_length}
use Rattle.value_texts.proofs.decimals.+digits.Goals as goal

pub returns-in_default : goal.returns-in_default
returns-in_default t c = λ n is. empty_is_none n c.args.text.now c.in_default.ensures.cases is.0 is.1

pub returns-in_default-digit : goal.returns-in_default-digit
returns-in_default-digit t c =
    λ n is. c.in_default-digit.ensures (digit_ends n c.in-Some.front.now c.in-Some.last.now is.0 (sym (c.in-Some.ensures.cases.0) ∙ is.1))

pub returns-then-is_empty : goal.returns-then-is_empty
returns-then-is_empty t c =
    let fits = c.in-Some-digit.ensures in
    let one = one_digit c.in-Some.front.now c.in-Some.last.now (no_length _ c.if-is_empty.ensures) fits.0.0 fits.0.1 in
    (omega (arith, fits.0.1, fits.1), rw (c.in-Some.ensures.cases.0, fits.1) one)

pub returns-in_default-digits : goal.returns-in_default-digits
returns-in_default-digits t c =
    λ n is. let front = front_is n c.in-Some.front.now c.in-Some.last.now is.0 (sym (c.in-Some.ensures.cases.0) ∙ is.1) (some_length _ c.if-is_empty.ensures) in
    c.in_default-digits.ensures (n / 10) (omega (arith, is.0), front.1)

pub returns-then-high-eq0 : goal.returns-then-high-eq0
returns-then-high-eq0 t c =
    λ n is. let front = front_is n c.in-Some.front.now c.in-Some.last.now is.0 (sym (c.in-Some.ensures.cases.0) ∙ is.1) (some_length _ c.if-is_empty.ensures) in
    let same : n / 10 ≡ c.in-Some-digits.high = decimal_injective (n / 10) c.in-Some-digits.high (omega (arith, is.0)) (c.in-Some-digits.ensures.0) (sym front.1 ∙ c.in-Some-digits.ensures.1) in
    omega (arith, same, front.0, c.if-high-eq0.true)

pub returns : goal.returns
returns t c =
    let high = c.in-Some-digits.high in
    let digit = c.in-Some-digit.last in
    let front = c.in-Some.front.now in
    let last = c.in-Some.last.now in
    let fits = c.in-Some-digit.ensures in
    let ends : last ≡ 48 + digit = omega (arith, fits.0.0, fits.1) in
    let small : digit < 10 = omega (arith, fits.0.1, fits.1) in
    let some : 0 < high = omega (arith, c.if-high-eq0.false) in
    Finds-from_SomeIff (IsNumber c.args.text.now) c.followed.result (10 * high + digit < 2 ^ 64) (10 * high + digit) c.followed.ensures
    (λ here. (here, rw c.in-Some.ensures.cases.0 (more_digits high digit front last some c.in-Some-digits.ensures.1 ends small here)))
    (λ n is.
    let whole = sym (c.in-Some.ensures.cases.0) ∙ is.1 in
    let its_last = (last_digit n front last is.0 whole).0 in
    let its_front = front_is n front last is.0 whole (some_length _ c.if-is_empty.ensures) in
    let same : n / 10 ≡ high = decimal_injective (n / 10) high (omega (arith, is.0)) (c.in-Some-digits.ensures.0) (sym its_front.1 ∙ c.in-Some-digits.ensures.1) in
    let value : n ≡ 10 * high + digit = omega (arith, same, its_last, ends, small) in
    omega (arith, value, is.0))
