-- Lists of texts.
use Rattle.std.proofs.Common.{◌≡◌, ℕ, ◌+◌, ◌<◌, List, [], ◌∷◌, ◌++◌, length, take, map, get_or, Bool, refl, ◌∙◌, ap, sym}
use Rattle.std.specs.Prelude.{◌||◌}
use Rattle.std.specs.List.{list_any}
use Rattle.std.proofs.lemmas.List.{take_more}

pub any_of_map : {A B : Type 0} (p : B → Bool) (f : A → B) (xs : List A) → list_any (λ x. p (f x)) xs ≡ list_any p (map f xs)
any_of_map p f [] = refl
any_of_map p f (x ∷ xs) = ap (λ (b : Bool). p (f x) || b) (any_of_map p f xs)

mapped_push : {A B : Type 0} (f : A → B) (xs : List A) (x : A) → map f (xs ++ x ∷ []) ≡ map f xs ++ f x ∷ []
mapped_push f [] x = refl
mapped_push f (y ∷ xs) x = ap (λ l. f y ∷ l) (mapped_push f xs x)

-- one more part is copied
pub copied_more : {A : Type 0} (f : A → List ℕ) (all : List (List ℕ)) (n : ℕ) (copies more : List A) (copy : A) (part : List ℕ) → map f copies ≡ take n all → n < length all → part ≡ get_or all n part → f copy ≡ part → more ≡ copies ++ copy ∷ [] → map f more ≡ take (n + 1) all
copied_more f all n copies more copy part so_far within is same grown =
    rw (grown, mapped_push, so_far, same) (ap (λ (last : List ℕ). take n all ++ last ∷ []) is ∙ sym (take_more all n part within))
