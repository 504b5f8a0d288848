-- Two lists side by side: what stands in one alone, and what has the same key in both.
use Rattle.std.specs.Prelude.{List, [], ◌∷◌, ⊤}
use Rattle.row_forms.specs.declared.side.Side.{Side}
use Rattle.row_forms.specs.declared.side.Side.TheVariants.{Gone, New, Both}

-- what a side has of the old list
abbrev pub old_of : {A B : Type 0} → (A → B) → Side A → List B
old_of f (Gone x) = f x ∷ []
old_of f (New y) = []
old_of f (Both x y) = f x ∷ []

-- what it has of the new one
abbrev pub new_of : {A B : Type 0} → (A → B) → Side A → List B
new_of f (Gone x) = []
new_of f (New y) = f y ∷ []
new_of f (Both x y) = f y ∷ []

-- two things in one side have one key
abbrev pub IsOfOneKey : {A : Type 0} → (A → A → Type 0) → Side A → Type 0
IsOfOneKey same (Gone x) = ⊤
IsOfOneKey same (New y) = ⊤
IsOfOneKey same (Both x y) = same x y
