-- Words that are numbers.
use Rattle.std.specs.Prelude.{◌≡◌, ℕ, ◌^◌, ◌<◌, ◌≤◌, List, ◌⊎◌, ℤ, pos, negsuc, codes}
use Rattle.std.specs.Fmt.{decimal}

abbrev pub IsNumberUpTo : ℕ → List ℕ → ℕ → Type 0
IsNumberUpTo most word n = (n ≤ most) × (word ≡ decimal n)

-- a sequence number is from 0 to 2^63-1
unfoldable pub IsSequence : List ℕ → ℤ → Type 0
IsSequence word z = (n : ℕ) × (n < 2 ^ 63) × (word ≡ decimal n) × (z ≡ pos n)

-- `-` is -1, and the others are from 0 to 2^62
unfoldable pub IsBase : List ℕ → ℤ → Type 0
IsBase word z =
    ((word ≡ codes "-") × (z ≡ negsuc 0)) ⊎ ((n : ℕ) × (n ≤ 2 ^ 62) × (word ≡ decimal n) × (z ≡ pos n))

abbrev pub IsMoment : List ℕ → ℕ → Type 0
IsMoment word n = IsNumberUpTo 253402300799999 word n

-- the number stands between two limits
abbrev pub IsBetween : ℕ → ℕ → List ℕ → ℕ → Type 0
IsBetween least most word n = (least ≤ n) × (n ≤ most) × (word ≡ decimal n)
