-- Writes one after the other that are apart.
use Rattle.std.proofs.Common.{◌≡◌, ◌≢◌, ℕ, zero, suc, ◌<◌, ◌+◌, Bool, true, false, List, [], ◌∷◌, ◌++◌, take, length, slice_index_or, sym, ap, subst, ◌∙◌, refl, arith, true≢false}
use Rattle.std.specs.Prelude.{◌||◌, ◌==◌, string_bytes, reverse, All}
use Rattle.std.proofs.lemmas.List.{reverse-append}
use Rattle.std.proofs.lemmas.List.Elements.{All-append}
use Rattle.std.specs.List.{list_any}
use Rattle.std.specs.Str.{bytes_eq}
use Rattle.std.proofs.lemmas.Slice.Eq.{bytes_eq-Decides}
use Rattle.std.proofs.lemmas.Bool.Decides.{nat_tests}
use Rattle.row_rounds.specs.declared.saving.Write.{Write}
use Rattle.row_rounds.specs.Rounds.{IsNamed, name_of}

pub or_false : (a b : Bool) → (a || b) ≡ false → (a ≡ false) × (b ≡ false)
or_false true b h = absurd (true≢false h)
or_false false b h = (refl, h)

none_of_first : {A : Type 0} (p : A → Bool) (xs : List A) (n i : ℕ) (d : A) → list_any p (take n xs) ≡ false → i < n → i < length xs → p (slice_index_or xs i d) ≡ false
none_of_first p [] n i d none below within = absurd (omega arith)
none_of_first p (x ∷ xs) zero i d none below within = absurd (omega arith)
none_of_first p (x ∷ xs) (suc n) zero d none below within = (or_false (p x) (list_any p (take n xs)) none).0
none_of_first p (x ∷ xs) (suc n) (suc i) d none below within =
    none_of_first p xs n i d (or_false (p x) (list_any p (take n xs)) none).1 (omega arith) (omega arith)

pub same_element : {A : Type 0} (xs : List A) (i : ℕ) (d e : A) → i < length xs → slice_index_or xs i d ≡ slice_index_or xs i e
same_element [] i d e within = absurd (omega arith)
same_element (x ∷ xs) zero d e within = refl
same_element (x ∷ xs) (suc i) d e within = same_element xs i d e (omega arith)

-- those before the place are apart
abbrev pub AreApartBelow : List Write → ℕ → Type 0
AreApartBelow writes place = (i j : ℕ) (d : Write) → i < j → j < place → name_of (slice_index_or writes i d) ≢ name_of (slice_index_or writes j d)

-- and so is one more, whose text none of them has
pub apart_more : (writes : List Write) (place : ℕ) (text : List ℕ) → place < length writes → All IsNamed writes → ((d : Write) → string_bytes (slice_index_or writes place d).topic ≡ text)
    → AreApartBelow writes place → list_any (λ w. bytes_eq (string_bytes w.topic) text) (take place writes) ≡ false → AreApartBelow writes (place + 1)
apart_more writes place text within named is apart none i j d below under same = by (j == place) refl
  where
    by : (b : Bool) → (j == place) ≡ b → ⊥
    by true last =
        let at : j ≡ place = grind (arith, nat_tests) in
        let early : i < length writes = omega (arith, at, below, within) in
        let late : j < length writes = omega (arith, at, within) in
        let here : string_bytes (slice_index_or writes i d).topic ≡ text = named i d early ∙ (same ∙ (sym (named j d late) ∙ (ap (λ n. string_bytes (slice_index_or writes n d).topic) at ∙ is d))) in
        let other = none_of_first (λ (w : Write). bytes_eq (string_bytes w.topic) text) writes place i d none (omega (arith, at, below)) early in
        cc (other, (bytes_eq-Decides (string_bytes (slice_index_or writes i d).topic) text).1 here)
    by false before = let less : j < place = grind (arith, nat_tests) in apart i j d below less same

-- lists that are the same with one more have the same last, and are the same without it
pub append_end : {A : Type 0} (xs ys : List A) (x y : A) → xs ++ x ∷ [] ≡ ys ++ y ∷ [] → (xs ≡ ys) × (x ≡ y)
append_end [] [] x y same = let last : x ≡ y = cc in (refl, last)
append_end [] (b ∷ []) x y same = absurd cc
append_end [] (b ∷ c ∷ ys) x y same = absurd cc
append_end (a ∷ []) [] x y same = absurd cc
append_end (a ∷ b ∷ xs) [] x y same = absurd cc
append_end (a ∷ xs) (b ∷ ys) x y same =
    let first : a ≡ b = cc in
    let others : xs ++ x ∷ [] ≡ ys ++ y ∷ [] = cc in
    let rest = append_end xs ys x y others in
    ((λ i. first i ∷ rest.0 i), rest.1)

-- all before the place are so, and so is one more
abbrev pub AllBelow : {A : Type 0} → (A → Type 0) → List A → ℕ → Type 0
AllBelow {A} P xs place = (n : ℕ) (d : A) → n < place → P (slice_index_or xs n d)

pub below_more : {A : Type 0} (P : A → Type 0) (xs : List A) (place : ℕ) (x : A) → place < length xs → slice_index_or xs place x ≡ x → AllBelow P xs place → P x → AllBelow P xs (place + 1)
below_more P xs place x within is below at n d less = by (n == place) refl
  where
    by : (b : Bool) → (n == place) ≡ b → P (slice_index_or xs n d)
    by true last =
        let here : n ≡ place = grind (arith, nat_tests) in
        subst P (sym (ap (λ m. slice_index_or xs m d) here ∙ (same_element xs place d x within ∙ is))) at
    by false before = let early : n < place = grind (arith, nat_tests) in below n d early

-- what holds of all holds of them the other way round
pub all_reversed : {A : Type 0} (P : A → Type 0) (xs : List A) → All P xs → All P (reverse xs)
all_reversed P [] all = all
all_reversed P (x ∷ xs) all = subst (All P) (sym (reverse-append (x ∷ []) xs)) (All-append P (reverse xs) (reverse (x ∷ [])) (all_reversed P xs (λ n d lt. all (suc n) d (omega (arith, lt)))) (last x (all zero x (omega arith))))
  where
    last : (y : _) → P y → All P (reverse (y ∷ []))
    last y h zero d lt = h
    last y h (suc n) d lt = absurd (omega (arith, lt))
