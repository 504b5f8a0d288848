-- What was put into a handover and what was taken.
use Rattle.std.specs.Prelude.{◌≡◌, ◌<◌, ℕ, List, [], ◌∷◌, ◌++◌, length, map, ◌≤◌, ◌⊎◌, filter, ◌==◌, true, false}
use mathlib.Core.Option.{some}
use lib.ListN.{get_elem?}
use Rattle.handover.specs.declared.view.View.{View}
use Rattle.handover.specs.declared.view.Numbered.{Numbered}

-- each number is above the one before, and all are above low
abbrev pub Rises : ℕ → List ℕ → Type 0
Rises low [] = Unit {0}
Rises low (x ∷ xs) = (low < x) × Rises x xs

-- the greatest number put, or 0
abbrev pub last_of : ℕ → List ℕ → ℕ
last_of low [] = low
last_of low (x ∷ xs) = last_of x xs

abbrev pub numbers : {C : Type 0} → List (Numbered C) → List ℕ
numbers items = map (λ m. m.number) items

-- who took, and what
abbrev pub taken_by : ℕ → List (ℕ × ℕ) → List ℕ
taken_by pass takes = map (λ (t : ℕ × ℕ). t.1) (filter (λ (t : ℕ × ℕ). t.0 == pass) takes)

abbrev pub all_taken : List (ℕ × ℕ) → List ℕ
all_taken takes = map (λ (t : ℕ × ℕ). t.1) takes

-- the pass that puts knows all that was put, and each pass what it took
abbrev pub Fits : ℕ → List ℕ → List (ℕ × ℕ) → ℕ → View → Type 0
Fits putter put takes pass v = (v.puts ≡ true → (pass ≡ putter) × (v.put ≡ put)) × (v.taken ≡ taken_by pass takes)

-- The numbers put rise. What was taken is, in order, the beginning of what was put, and the rest is held. Each pass lists what it took
abbrev pub InOrder : {C : Type 0} → List (Numbered C) → List View → Type 0
InOrder items views =
    (putter : ℕ) × (put : List ℕ) × (takes : List (ℕ × ℕ))
    × Rises 0 put × (all_taken takes ++ numbers items ≡ put)
    × ((pass : ℕ) (v : View) → get_elem? views pass ≡ some v → Fits putter put takes pass v)
    × ((pass : ℕ) → length views ≤ pass → taken_by pass takes ≡ [])

abbrev pub putter : List ℕ → View
putter put = record { puts = true; put = put; taken = [] }

abbrev pub taker : List ℕ → View
taker taken = record { puts = false; put = []; taken = taken }

-- own is a part of all, in order
abbrev pub IsPart : List ℕ → List ℕ → Type 0
IsPart own [] = own ≡ []
IsPart own (x ∷ xs) = IsPart own xs ⊎ ((rest : List ℕ) × (own ≡ x ∷ rest) × IsPart rest xs)

-- n was taken next: before were all that were taken before, by whomever, of which own are this pass's; after it comes what was put later
abbrev pub TakenNext : List ℕ → ℕ → Type 0
TakenNext own n = (before : List ℕ) × (after : List ℕ) × Rises 0 (before ++ n ∷ after) × IsPart own before

abbrev pub Takes : {C : Type 0} → View → Numbered C → View → Type 0
Takes v m w = (w ≡ taker (v.taken ++ m.number ∷ [])) × TakenNext v.taken m.number
