-- The last digit of a number's text, and what stands before it.
use Rattle.std.proofs.Common.{◌≡◌, ◌==◌, ℕ, ◌+◌, ◌-◌, ◌*◌, ◌/◌, ◌%◌, ◌^◌, ◌<◌, ◌≤◌, ◌⊎◌, List, [], ◌∷◌, ◌++◌, length, true, false, Option, Some, None, subst, sym, ◌∙◌, ap, inl, inr, arith, refl}
use Rattle.std.specs.Fmt.{decimal}
use Rattle.std.specs.Option.{SomeIff}
use Rattle.std.proofs.lemmas.Bool.Decides.{nat_tests}
use Rattle.value_texts.specs.Decimals.{Finds}
use Rattle.std.proofs.lemmas.Fmt.{decimal_digit, decimal_step, decimal_nonempty, decimal_injective, length-decimal-le}
use Rattle.std.proofs.lemmas.List.{same_from_push}
use Rattle.std.proofs.lemmas.Bool.{cases_lt}

abbrev pub EndsWithDigit : ℕ → List ℕ → ℕ → Type 0
EndsWithDigit n front last = (last ≡ 48 + n % 10) × (((n < 10) × (front ≡ [])) ⊎ ((10 ≤ n) × (front ≡ decimal (n / 10))))

-- a number's text ends with its last digit, after the text of the rest where there is one
pub last_digit : (n : ℕ) (front : List ℕ) (last : ℕ) → n < 2 ^ 64 → front ++ last ∷ [] ≡ decimal n → EndsWithDigit n front last
last_digit n front last small is =
    elim (cases_lt n 10) [
      | inl h ↦
          let same = same_from_push front [] last (48 + n) (is ∙ decimal_digit n h) in
          (omega (arith, same.1), inl (h, same.0))
      | inr h ↦
          let same = same_from_push front (decimal (n / 10)) last (48 + n % 10) (is ∙ decimal_step n h small) in
          (same.1, inr (h, same.0))
    ]

-- the empty text is no number's
pub empty_is_none : (n : ℕ) (word : List ℕ) → length word ≡ 0 → n < 2 ^ 64 → word ≡ decimal n → ⊥
empty_is_none n word e small is = omega (arith, decimal_nonempty n small, ap length is)

-- a text that ends with another byte is no number's
pub digit_ends : (n : ℕ) (front : List ℕ) (last : ℕ) → n < 2 ^ 64 → front ++ last ∷ [] ≡ decimal n → (48 ≤ last) × (last ≤ 57)
digit_ends n front last small is =
    let ends = (last_digit n front last small is).0 in
    (omega (arith, ends), omega (arith, ends))

-- the front of a number's text, where there is one, is the text of a number above 0
pub front_is : (n : ℕ) (front : List ℕ) (last : ℕ) → n < 2 ^ 64 → front ++ last ∷ [] ≡ decimal n → 0 < length front → (10 ≤ n) × (front ≡ decimal (n / 10))
front_is n front last small is some =
    elim ((last_digit n front last small is).1) [
      | inl h ↦ absurd (omega (arith, ap length h.1))
      | inr h ↦ h
    ]

empty-nil : (xs : List ℕ) → length xs ≡ 0 → xs ≡ []
empty-nil [] e = refl
empty-nil (x ∷ xs) e = absurd (omega (arith, e))

-- one digit is the text of its number
pub one_digit : (front : List ℕ) (last : ℕ) → length front ≡ 0 → 48 ≤ last → last ≤ 57 → front ++ last ∷ [] ≡ decimal (last - 48)
one_digit front last e low high =
    rw (empty-nil front e, decimal_digit (last - 48) (omega arith)) (ap (λ (d : ℕ). d ∷ []) (omega arith))

-- a digit at the end of the text of a number above 0
pub more_digits : (high digit : ℕ) (front : List ℕ) (last : ℕ) → 0 < high → front ≡ decimal high → last ≡ 48 + digit → digit < 10 → 10 * high + digit < 2 ^ 64 → front ++ last ∷ [] ≡ decimal (10 * high + digit)
more_digits high digit front last some is ends small fits =
    let n : ℕ = 10 * high + digit in
    let tens : n / 10 ≡ high = omega arith in
    let ones : n % 10 ≡ digit = omega arith in
    rw (decimal_step n (omega arith) fits, tens, ones, is, ends) refl

-- a text is that of one number alone
pub one_number : (word : List ℕ) (m n : ℕ) → m < 2 ^ 64 → n < 2 ^ 64 → word ≡ decimal m → word ≡ decimal n → m ≡ n
one_number word m n small_m small_n is_m is_n = decimal_injective m n small_m small_n (sym is_m ∙ is_n)

-- a number's text has at most 20 bytes
pub long_is_none : (n : ℕ) (word : List ℕ) → 20 < length word → n < 2 ^ 64 → word ≡ decimal n → ⊥
long_is_none n word long small is = omega (arith, length-decimal-le 20 n (omega arith) (omega arith) small, ap length is)

pub Finds-from_SomeIff : {A : Type 0} (P : A → Type 0) (r : Option A) (Q : Type 0) (v : A) → SomeIff r Q v → (Q → P v) → ((x : A) → P x → Q) → Finds P r
Finds-from_SomeIff P None Q v none here there = λ x p. none (there x p)
Finds-from_SomeIff P (Some x) Q v some here there = subst P (sym some.1) (here some.0)

pub some_length : (xs : List ℕ) → false ≡ (length xs == 0) → 0 < length xs
some_length xs e = grind (arith, nat_tests)

pub no_length : (xs : List ℕ) → true ≡ (length xs == 0) → length xs ≡ 0
no_length xs e = grind (arith, nat_tests)
