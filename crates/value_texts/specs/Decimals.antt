-- Numbers by their decimal texts.
use Rattle.std.specs.Prelude.{◌≡◌, ℕ, ◌^◌, ◌<◌, List, Option, Some, None}
use Rattle.std.specs.Fmt.{decimal}

-- the text is the number's decimal text
abbrev pub IsNumber : List ℕ → ℕ → Type 0
IsNumber text n = (n < 2 ^ 64) × (text ≡ decimal n)

-- what was found passes, and nothing was found only where nothing passes
abbrev pub Finds : {A : Type 0} → (A → Type 0) → Option A → Type 0
Finds {A} P None = (x : A) → P x → ⊥
Finds P (Some x) = P x
