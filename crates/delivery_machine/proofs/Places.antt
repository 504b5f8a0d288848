-- What stands at the first place that passes a test.
use Rattle.std.proofs.Common.{◌≡◌, ℕ, ◌<◌, List, [], ◌∷◌, Some, None, Bool, true, false, cond, get_or, set, length, refl, ap, ◌∙◌, sym, arith, suc, zero}
use Rattle.std.specs.Prelude.{◌||◌}
use Rattle.std.specs.List.{find, list_any, position, remove}
use Rattle.std.proofs.lemmas.List.Recursion.{found_at, found_nowhere}
use Rattle.std.proofs.lemmas.List.Quantifiers.{position-Some}
pub use Rattle.log_pieces.proofs.Searching.{at_the_end, fails_everywhere}
use Rattle.delivery_machine.specs.Words.{changed, removed}

pub find-position : {A : Type 0} (p : A → Bool) (xs : List A) (i : ℕ) (d : A) → position p xs ≡ Some i → find p xs ≡ Some (get_or xs i d)
find-position p xs i d is =
    let at = position-Some p xs i d is in
    found_at (find p) p Some None refl (λ _ _. refl) xs i d at.0 at.2 at.1

changed_at : {A : Type 0} (p : A → Bool) (f : A → A) (xs : List A) (i : ℕ) (d : A) → i < length xs → p (get_or xs i d) ≡ true → ((k : ℕ) → k < i → p (get_or xs k d) ≡ false) → changed p f xs ≡ set xs i (f (get_or xs i d))
changed_at p f [] i d lt here before = absurd (omega arith)
changed_at p f (x ∷ xs) zero d lt here before = ap (λ b. cond b (f x ∷ xs) (x ∷ changed p f xs)) here
changed_at p f (x ∷ xs) (suc i) d lt here before =
    ap (λ b. cond b (f x ∷ xs) (x ∷ changed p f xs)) (before 0 (omega arith))
    ∙ ap (λ ys. x ∷ ys) (changed_at p f xs i d (omega arith) here (λ k below. before (suc k) (omega arith)))

changed_nowhere : {A : Type 0} (p : A → Bool) (f : A → A) (xs : List A) → ((k : ℕ) (d : A) → k < length xs → p (get_or xs k d) ≡ false) → changed p f xs ≡ xs
changed_nowhere p f [] none = refl
changed_nowhere p f (x ∷ xs) none =
    ap (λ b. cond b (f x ∷ xs) (x ∷ changed p f xs)) (none 0 x (omega arith))
    ∙ ap (λ ys. x ∷ ys) (changed_nowhere p f xs (λ k d below. none (suc k) d (omega arith)))

pub changed-position : {A : Type 0} (p : A → Bool) (f : A → A) (xs : List A) (i : ℕ) (d : A) → position p xs ≡ Some i → changed p f xs ≡ set xs i (f (get_or xs i d))
changed-position p f xs i d is =
    let at = position-Some p xs i d is in
    changed_at p f xs i d at.0 at.1 at.2

pub find-no_position : {A : Type 0} (p : A → Bool) (xs : List A) (d : A) → position p xs ≡ None → find p xs ≡ None
find-no_position p xs d is = found_nowhere (find p) p Some None refl (λ _ _. refl) xs d (λ k below. fails_everywhere p xs is k d below)

pub changed-no_position : {A : Type 0} (p : A → Bool) (f : A → A) (xs : List A) → position p xs ≡ None → changed p f xs ≡ xs
changed-no_position p f xs is = changed_nowhere p f xs (fails_everywhere p xs is)

-- the same, as code that looks for the place and writes there has it
pub changed_there : {A : Type 0} (p : A → Bool) (f : A → A) (xs : List A) (i : ℕ) (d y : A) → Some i ≡ position p xs → y ≡ f (get_or xs i d) → set xs i y ≡ changed p f xs
changed_there p f xs i d y there is = ap (set xs i) is ∙ sym (changed-position p f xs i d (sym there))

pub unchanged : {A : Type 0} (p : A → Bool) (f : A → A) (xs : List A) → None ≡ position p xs → xs ≡ changed p f xs
unchanged p f xs nowhere = sym (changed-no_position p f xs (sym nowhere))

pub found_there : {A : Type 0} (p : A → Bool) (xs : List A) (i : ℕ) (d : A) → Some i ≡ position p xs → find p xs ≡ Some (get_or xs i d)
found_there p xs i d there = find-position p xs i d (sym there)

pub found_nothing : {A : Type 0} (p : A → Bool) (xs : List A) → None ≡ position p xs → find p xs ≡ None
found_nothing p [] nowhere = refl
found_nothing p (x ∷ xs) nowhere = find-no_position p (x ∷ xs) x (sym nowhere)

any_nowhere : {A : Type 0} (p : A → Bool) (xs : List A) → ((k : ℕ) (d : A) → k < length xs → p (get_or xs k d) ≡ false) → list_any p xs ≡ false
any_nowhere p [] none = refl
any_nowhere p (x ∷ xs) none =
    ap (λ b. b || list_any p xs) (none 0 x (omega arith))
    ∙ any_nowhere p xs (λ k d below. none (suc k) d (omega arith))

pub none_passes : {A : Type 0} (p : A → Bool) (xs : List A) → None ≡ position p xs → list_any p xs ≡ false
none_passes p xs nowhere = any_nowhere p xs (fails_everywhere p xs (sym nowhere))

removed_at : {A : Type 0} (p : A → Bool) (xs : List A) (i : ℕ) (d : A) → i < length xs → p (get_or xs i d) ≡ true → ((k : ℕ) → k < i → p (get_or xs k d) ≡ false) → removed p xs ≡ remove xs i
removed_at p [] i d lt here before = absurd (omega arith)
removed_at p (x ∷ xs) zero d lt here before = ap (λ b. cond b xs (x ∷ removed p xs)) here
removed_at p (x ∷ xs) (suc i) d lt here before =
    ap (λ b. cond b xs (x ∷ removed p xs)) (before 0 (omega arith))
    ∙ ap (λ ys. x ∷ ys) (removed_at p xs i d (omega arith) here (λ k below. before (suc k) (omega arith)))

removed_nowhere : {A : Type 0} (p : A → Bool) (xs : List A) → ((k : ℕ) (d : A) → k < length xs → p (get_or xs k d) ≡ false) → removed p xs ≡ xs
removed_nowhere p [] none = refl
removed_nowhere p (x ∷ xs) none =
    ap (λ b. cond b xs (x ∷ removed p xs)) (none 0 x (omega arith))
    ∙ ap (λ ys. x ∷ ys) (removed_nowhere p xs (λ k d below. none (suc k) d (omega arith)))

-- the element at the first such place is taken out
pub removed_there : {A : Type 0} (p : A → Bool) (xs : List A) (i : ℕ) (d : A) → Some i ≡ position p xs → remove xs i ≡ removed p xs
removed_there p xs i d there =
    let at = position-Some p xs i d (sym there) in
    sym (removed_at p xs i d at.0 at.1 at.2)

pub none_removed : {A : Type 0} (p : A → Bool) (xs : List A) → None ≡ position p xs → xs ≡ removed p xs
none_removed p xs nowhere = sym (removed_nowhere p xs (fails_everywhere p xs (sym nowhere)))
