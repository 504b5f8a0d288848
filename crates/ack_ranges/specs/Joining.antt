-- The ranges as a function from where they begin to where they end, before and after a number joined them.
use Rattle.std.specs.Prelude.{◌≡◌, ℕ, ◌<◌, ◌≤◌, ◌^◌, ◌⊎◌, Option, Some, None, IsSome}
use Rattle.std.specs.Option.{unwrap_or}

-- what a map has from a number to its range's end: each range is above low and not empty, and
-- between two is a number of neither
pub record AreApart (low : ℕ) (f : ℕ → Option ℕ) : Type 0 where
  pub low_small : low < 2 ^ 128
  pub small : (s e : ℕ) → f s ≡ Some e → e < 2 ^ 128
  pub above : (s e : ℕ) → f s ≡ Some e → (low < s) × (s < e)
  pub apart : (s e t u : ℕ) → f s ≡ Some e → f t ≡ Some u → s < t → e < t

-- in a range
abbrev pub IsIn : (ℕ → Option ℕ) → ℕ → Type 0
IsIn f q = (s : ℕ) × (e : ℕ) × (f s ≡ Some e) × (s ≤ q) × (q < e)

-- the last range that begins at q or before it
abbrev pub IsLastUpTo : (ℕ → Option ℕ) → ℕ → ℕ → ℕ → Type 0
IsLastUpTo f q s e = (f s ≡ Some e) × (s ≤ q) × ((t : ℕ) → t ≤ q → IsSome (f t) → t ≤ s)

-- no range begins at q or before it
abbrev pub NoneUpTo : (ℕ → Option ℕ) → ℕ → Type 0
NoneUpTo f q = (t : ℕ) → t ≤ q → f t ≡ None

-- where the range ends that begins at q, or else q
abbrev pub end_at : (ℕ → Option ℕ) → ℕ → ℕ
end_at f q = unwrap_or (f q) q

-- g has a range from s to e, none from after q, and all else of f
pub record Joined (f g : ℕ → Option ℕ) (s e after : ℕ) : Type 0 where
  pub here : g s ≡ Some e
  pub gone : g after ≡ None
  pub others : (t : ℕ) → (t ≡ s → ⊥) → (t ≡ after → ⊥) → g t ≡ f t

-- a range is to begin at q, where none ends, or the one at s ends at q
abbrev pub Joins : (ℕ → Option ℕ) → ℕ → ℕ → Type 0
Joins f s q = ((s ≡ q) × ((t : ℕ) → f t ≡ Some q → ⊥)) ⊎ (f s ≡ Some q)

-- q is in no range, and one that begins at s takes it
pub record TakesIn (f : ℕ → Option ℕ) (low s q : ℕ) : Type 0 where
  pub above : low < s
  pub le : s ≤ q
  pub joins : Joins f s q
  pub out : IsIn f q → ⊥
