-- Each member's subscription is there.
use Rattle.std.proofs.Common.{◌≡◌, ℕ, zero, suc, List, [], ◌∷◌, Some, Bool, true, false, cond, refl, ap}
use Rattle.std.specs.Prelude.{◌||◌, is_some}
use Rattle.std.specs.List.{AllByRecursion, find, insert, list_any}
use Rattle.delivery_machine.specs.State.{Subscription}
use Rattle.delivery_machine.proofs.Deciding.{or_second}
use Rattle.delivery_machine.specs.Words.{is_named}

-- there is a subscription of the name
abbrev pub is_there : List Subscription → List ℕ → Bool
is_there subs name = list_any (is_named name) subs

abbrev pub AllThere : List (List ℕ) → List Subscription → Type 0
AllThere names subs = AllByRecursion (λ name. is_there subs name ≡ true) names

pub all_there : (names : List (List ℕ)) (before after : List Subscription) → ((name : List ℕ) → is_there before name ≡ true → is_there after name ≡ true) → AllThere names before → AllThere names after
all_there [] before after keeps all = tt
all_there (name ∷ names) before after keeps all = (keeps name all.0, all_there names before after keeps all.1)

pub any_found : {A : Type 0} (p : A → Bool) (xs : List A) → is_some (find p xs) ≡ list_any p xs
any_found p [] = refl
any_found p (x ∷ xs) = by (p x) (any_found p xs)
  where
    by : (b : Bool) → is_some (find p xs) ≡ list_any p xs → is_some (cond b (Some x) (find p xs)) ≡ (b || list_any p xs)
    by true rest = refl
    by false rest = rest

pub any_inserted : {A : Type 0} (p : A → Bool) (xs : List A) (i : ℕ) (y : A) → list_any p xs ≡ true → list_any p (insert xs i y) ≡ true
any_inserted p xs zero y any = or_second (p y) (list_any p xs) any
any_inserted p [] (suc i) y any = cc
any_inserted p (x ∷ xs) (suc i) y any = by (p x) any (any_inserted p xs i y)
  where
    by : (a : Bool) → (a || list_any p xs) ≡ true → (list_any p xs ≡ true → list_any p (insert xs i y) ≡ true) → (a || list_any p (insert xs i y)) ≡ true
    by true any rest = refl
    by false any rest = rest any

pub inserted_there : {A : Type 0} (p : A → Bool) (xs : List A) (i : ℕ) (y : A) → p y ≡ true → list_any p (insert xs i y) ≡ true
inserted_there p xs zero y t = ap (λ b. b || list_any p xs) t
inserted_there p [] (suc i) y t = ap (λ b. b || false) t
inserted_there p (x ∷ xs) (suc i) y t = or_second (p x) (list_any p (insert xs i y)) (inserted_there p xs i y t)
