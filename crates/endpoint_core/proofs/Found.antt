-- The first parameter of a name.
use Rattle.std.proofs.Common.{◌≡◌, ℕ, zero, suc, ◌<◌, ◌+◌, List, [], ◌∷◌, length, map, get_or, Option, Some, None, option_map, Bool, true, false, cond, refl, ◌∙◌, ap, arith}
use Rattle.std.specs.List.{find}
use Rattle.std.specs.Str.{bytes_eq}
use Rattle.endpoint_core.specs.Queries.{Parameter, value_at}

passing_map : {A B : Type 0} (v : A → B) (x : A) (b : Bool) (r : Option B) (s : Option A) → r ≡ option_map v s → cond b (Some (v x)) r ≡ option_map v (cond b (Some x) s)
passing_map v x true r s e = refl
passing_map v x false r s e = e

find-map : {A B : Type 0} (v : A → B) (p : B → Bool) (xs : List A) → find p (map v xs) ≡ option_map v (find (λ x. p (v x)) xs)
find-map v p [] = refl
find-map v p (x ∷ xs) = passing_map v x (p (v x)) _ _ (find-map v p xs)

none_found : {A : Type 0} (p : A → Bool) (xs : List A) → ((k : ℕ) (d : A) → k < length xs → p (get_or xs k d) ≡ false) → find p xs ≡ None
none_found p [] fails = refl
none_found p (x ∷ xs) fails = rw (fails 0 x (omega arith)) (none_found p xs (λ k d below. fails (suc k) d (omega arith)))

found_at : {A : Type 0} (p : A → Bool) (xs : List A) (i : ℕ) (y : A) → ((k : ℕ) (d : A) → k < i → p (get_or xs k d) ≡ false) → i < length xs → y ≡ get_or xs i y → p y ≡ true → find p xs ≡ Some y
found_at p [] i y fails within is passes = absurd (omega arith)
found_at p (x ∷ xs) zero y fails within is passes = rw (← is, passes) refl
found_at p (x ∷ xs) (suc i) y fails within is passes = rw (fails 0 x (omega arith)) (found_at p xs i y (λ k d below. fails (suc k) d (omega arith)) (omega arith) is passes)

pub passed : {A : Type 0} (p : A → Bool) (xs : List A) (i : ℕ) (y : A) → ((k : ℕ) (d : A) → k < i → p (get_or xs k d) ≡ false) → i < length xs → y ≡ get_or xs i y → p y ≡ false → (k : ℕ) (d : A) → k < i + 1 → p (get_or xs k d) ≡ false
passed p [] i y fails within is not k d below = absurd (omega arith)
passed p (x ∷ xs) zero y fails within is not zero d below = rw (← is) not
passed p (x ∷ xs) zero y fails within is not (suc k) d below = absurd (omega arith)
passed p (x ∷ xs) (suc i) y fails within is not zero d below = fails 0 d (omega arith)
passed p (x ∷ xs) (suc i) y fails within is not (suc k) d below = passed p xs i y (λ k d below. fails (suc k) d (omega arith)) (omega arith) is not k d (omega arith)

pub value_there : {A : Type 0} (v : A → Parameter) (name : List ℕ) (xs : List A) (i : ℕ) (y : A) → ((k : ℕ) (d : A) → k < i → bytes_eq (v (get_or xs k d)).0 name ≡ false) → i < length xs → y ≡ get_or xs i y → bytes_eq (v y).0 name ≡ true → value_at name (map v xs) ≡ Some (v y).1
value_there v name xs i y fails within is passes =
    let test = λ (p : Parameter). bytes_eq p.0 name in
    ap (option_map (λ p. p.1)) (find-map v test xs ∙ ap (option_map v) (found_at (λ x. test (v x)) xs i y fails within is passes))

pub value_nowhere : {A : Type 0} (v : A → Parameter) (name : List ℕ) (xs : List A) → ((k : ℕ) (d : A) → k < length xs → bytes_eq (v (get_or xs k d)).0 name ≡ false) → value_at name (map v xs) ≡ None
value_nowhere v name xs fails =
    let test = λ (p : Parameter). bytes_eq p.0 name in
    ap (option_map (λ p. p.1)) (find-map v test xs ∙ ap (option_map v) (none_found (λ x. test (v x)) xs fails))
