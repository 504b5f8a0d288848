-- Varints of numbers below 2^64: how they unfold, how long they are, and that what follows one is known.
use Rattle.std.proofs.Common.{◌≡◌, ℕ, zero, suc, ◌+◌, ◌-◌, ◌*◌, ◌/◌, ◌%◌, ◌^◌, ◌<◌, ◌≤◌, nat_lt, true, false, List, [], ◌∷◌, ◌++◌, length, slice_index, refl, ap, arith, inl, inr, ◌⊎◌}
use Rattle.std.proofs.lemmas.Bool.{cases_Bool, cases_lt, lt-ltb, le-ltb}
use Rattle.std.proofs.Math.Nat.{pow-suc}
use Rattle.value_texts.specs.Id.{varint, varint_within}

low_is : (n : ℕ) → n < 128 → nat_lt n 128 ≡ true
low_is n h = lt-ltb n 128 h

high_is : (n : ℕ) → 128 ≤ n → nat_lt n 128 ≡ false
high_is n h = le-ltb n 128 h

quotient_fits : (most n : ℕ) → n < 128 ^ suc most → n / 128 < 128 ^ most
quotient_fits most n h = omega (arith, rw pow-suc at h)

-- more bytes than are needed change nothing
more_bytes : (most n : ℕ) → n < 128 ^ suc most → varint_within (suc most) n ≡ varint_within (suc (suc most)) n
unfolding varint_within
more_bytes zero n h = rw (low_is n (omega arith)) refl
more_bytes (suc most) n h = elim (cases_Bool (nat_lt n 128)) [
  | inl low ↦ rw low refl
  | inr high ↦ rw high (ap (λ (rest : List ℕ). (n % 128 + 128) ∷ rest) (more_bytes most (n / 128) (quotient_fits (suc most) n h)))
]

pub varint-low : (n : ℕ) → n < 128 → varint n ≡ n ∷ []
unfolding varint varint_within
varint-low n h = rw (low_is n h) refl

pub varint-high : (n : ℕ) → 128 ≤ n → n < 2 ^ 64 → varint n ≡ (n % 128 + 128) ∷ varint (n / 128)
unfolding varint varint_within
varint-high n h fits = rw (high_is n h) (ap (λ (rest : List ℕ). (n % 128 + 128) ∷ rest) (more_bytes 8 (n / 128) (omega arith)))

-- a varint has a first byte: the number itself, or its lowest bits before a varint of the others
pub varint_parts : (n first : ℕ) (rest tail : List ℕ) → n < 2 ^ 64 → first ∷ rest ≡ varint n ++ tail
    → ((n < 128) × (first ≡ n) × (rest ≡ tail)) ⊎ ((128 ≤ n) × (first ≡ n % 128 + 128) × (rest ≡ varint (n / 128) ++ tail))
varint_parts n first rest tail fits e = elim (cases_lt n 128) [
  | inl low ↦
      let cons : first ∷ rest ≡ n ∷ tail = rw (varint-low n low) at e in
      inl (low, cc, cc)
  | inr high ↦
      let cons : first ∷ rest ≡ (n % 128 + 128) ∷ (varint (n / 128) ++ tail) = rw (varint-high n high fits) at e in
      inr (high, cc, cc)
]

pub varint-not_empty : (n : ℕ) (tail : List ℕ) → n < 2 ^ 64 → [] ≡ varint n ++ tail → ⊥
varint-not_empty n tail fits e = elim (cases_lt n 128) [
  | inl low ↦ cc (rw (varint-low n low) at e)
  | inr high ↦ cc (rw (varint-high n high fits) at e)
]

within_same : (most a b : ℕ) (x y : List ℕ) → a < 128 ^ suc most → b < 128 ^ suc most → varint_within (suc most) a ++ x ≡ varint_within (suc most) b ++ y → (a ≡ b) × (x ≡ y)
unfolding varint_within
within_same zero a b x y fits_a fits_b e =
    let cons : a ∷ x ≡ b ∷ y = rw (low_is a (omega arith), low_is b (omega arith)) at e in
    (cc, cc)
within_same (suc most) a b x y fits_a fits_b e = elim (cases_lt a 128) [
  | inl low_a ↦ elim (cases_lt b 128) [
    | inl low_b ↦
        let cons : a ∷ x ≡ b ∷ y = rw (low_is a low_a, low_is b low_b) at e in
        (cc, cc)
    | inr high_b ↦
        let cons : a ∷ x ≡ (b % 128 + 128) ∷ (varint_within (suc most) (b / 128) ++ y) = rw (low_is a low_a, high_is b high_b) at e in
        let first : a ≡ b % 128 + 128 = cc in
        absurd (omega arith)
  ]
  | inr high_a ↦ elim (cases_lt b 128) [
    | inl low_b ↦
        let cons : (a % 128 + 128) ∷ (varint_within (suc most) (a / 128) ++ x) ≡ b ∷ y = rw (high_is a high_a, low_is b low_b) at e in
        let first : a % 128 + 128 ≡ b = cc in
        absurd (omega arith)
    | inr high_b ↦
        let cons : (a % 128 + 128) ∷ (varint_within (suc most) (a / 128) ++ x) ≡ (b % 128 + 128) ∷ (varint_within (suc most) (b / 128) ++ y) = rw (high_is a high_a, high_is b high_b) at e in
        let first : a % 128 + 128 ≡ b % 128 + 128 = cc in
        let others = within_same most (a / 128) (b / 128) x y (quotient_fits (suc most) a fits_a) (quotient_fits (suc most) b fits_b) (cc) in
        (omega arith, others.1)
  ]
]

-- what begins with a varint begins with one number, and has one rest
pub varint_same : (a b : ℕ) (x y : List ℕ) → a < 2 ^ 64 → b < 2 ^ 64 → varint a ++ x ≡ varint b ++ y → (a ≡ b) × (x ≡ y)
unfolding varint
varint_same a b x y fits_a fits_b e = within_same 9 a b x y (omega arith) (omega arith) e

within_short : (most n : ℕ) → length (varint_within most n) ≤ most
unfolding varint_within
within_short zero n = omega arith
within_short (suc most) n = elim (cases_Bool (nat_lt n 128)) [
  | inl low ↦ rw low (omega arith)
  | inr high ↦ rw high (omega (arith, within_short most (n / 128)))
]

pub varint_short : (n : ℕ) → length (varint n) ≤ 10
unfolding varint
varint_short n = within_short 10 n

within_bytes : (most n i : ℕ) → slice_index (varint_within most n) i < 256
unfolding varint_within
within_bytes zero n i = omega arith
within_bytes (suc most) n zero = elim (cases_lt n 128) [
  | inl low ↦ rw (low_is n low) (omega arith)
  | inr high ↦ rw (high_is n high) (omega arith)
]
within_bytes (suc most) n (suc i) = elim (cases_lt n 128) [
  | inl low ↦ rw (low_is n low) (omega arith)
  | inr high ↦ rw (high_is n high) (within_bytes most (n / 128) i)
]

pub varint_bytes : (n i : ℕ) → slice_index (varint n) i < 256
unfolding varint
varint_bytes n i = within_bytes 10 n i

-- no number's varint stands at the front
abbrev pub NoVarint : List ℕ → Type 0
NoVarint bytes = (n : ℕ) (rest : List ℕ) → n < 2 ^ 64 → bytes ≡ varint n ++ rest → ⊥

-- a first byte with its top bit set, before one more number
pub varint_longer : (first high : ℕ) (rest : List ℕ) → 128 ≤ first → first < 256 → 0 < high → high < 2 ^ 57 → first ∷ (varint high ++ rest) ≡ varint (high * 128 + (first - 128)) ++ rest
varint_longer first high rest top byte some fits =
    let n : ℕ = high * 128 + (first - 128) in
    let lowest : n % 128 + 128 ≡ first = omega arith in
    let others : n / 128 ≡ high = omega arith in
    rw (varint-high n (omega arith) (omega arith), lowest, others) refl

pub none_after : (first : ℕ) (rest : List ℕ) → 128 ≤ first → NoVarint rest → NoVarint (first ∷ rest)
none_after first rest top none n tail fits e = elim (varint_parts n first rest tail fits e) [
  | inl low ↦ absurd (omega arith)
  | inr high ↦ none (n / 128) tail (omega arith) high.2
]

-- 0 is not written behind another byte, nor a number that makes 2^64 or more
pub none_with : (first high : ℕ) (rest : List ℕ) → 128 ≤ first → high < 2 ^ 64 → (0 < high → 2 ^ 57 ≤ high) → NoVarint (first ∷ (varint high ++ rest))
none_with first high rest top small out n tail fits e = elim (varint_parts n first (varint high ++ rest) tail fits e) [
  | inl low ↦ absurd (omega arith)
  | inr long ↦
      let same = varint_same high (n / 128) rest tail small (omega arith) long.2 in
      absurd (omega arith)
]
