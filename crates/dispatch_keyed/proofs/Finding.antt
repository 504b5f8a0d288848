-- What is found in a list that is filtered.
use Rattle.std.proofs.Common.{◌≡◌, List, [], ◌∷◌, Bool, true, false, cond, Option, Some, refl, ap}
use Rattle.std.specs.Prelude.{◌&&◌}
use Rattle.std.specs.List.{find, filter}

-- the first that passes both tests is, of those that pass the first, the first that passes the second
pub find-filter : {A : Type 0} (p q : A → Bool) (xs : List A) → find (λ x. p x && q x) xs ≡ find q (filter p xs)
find-filter p q [] = refl
find-filter {A} p q (x ∷ xs) = by_case (p x) (find (λ y. p y && q y) xs) (filter p xs) (find-filter p q xs)
  where
    by_case : (t : Bool) (later : Option A) (kept : List A) → later ≡ find q kept → cond (t && q x) (Some x) later ≡ find q (cond t (x ∷ kept) kept)
    by_case true later kept same = ap (cond (q x) (Some x)) same
    by_case false later kept same = same
