-- The subscription of a name, as the machine finds it.
use Rattle.std.proofs.Common.{◌≡◌, ℕ, List, [], ◌∷◌, Some, None, Option, Bool, ap, ◌∙◌, sym, subst}
use Rattle.std.specs.Prelude.{is_some, if◌then◌else◌, IsSomeAnd, slice_get}
use Rattle.std.specs.List.{find, position}
use Rattle.std.proofs.lemmas.List.Quantifiers.{position-Some}
use Rattle.std.proofs.lemmas.Option.{slice_get-get_or}
use Rattle.position_core.specs.declared.fault.Fault.TheVariants.{NoSuchSubscription}
use Rattle.delivery_machine.specs.State.{State, Subscription}
use Rattle.delivery_machine.specs.Words.{is_named}
use Rattle.delivery_machine.specs.Refusals.{absence_refused}
use Rattle.delivery_machine.proofs.Places.{find-position, found_nothing}

pub absent : (s : State) (name : List ℕ) → None ≡ position (is_named name) s.subscriptions → absence_refused s name ≡ Some NoSuchSubscription
absent s name nowhere = ap (λ (o : Option Subscription). if is_some o then None else Some NoSuchSubscription) (found_nothing (is_named name) s.subscriptions nowhere)

pub present : (s : State) (name : List ℕ) (sub : Subscription) → find (is_named name) s.subscriptions ≡ Some sub → absence_refused s name ≡ None
present s name sub there = ap (λ (o : Option Subscription). if is_some o then None else Some NoSuchSubscription) there

-- what holds of what is found
pub at_some : {A : Type 0} (o : Option A) (x : A) (P : A → Type 0) → o ≡ Some x → P x → IsSomeAnd o P
at_some {A} o x P is holds = subst (λ (z : Option A). IsSomeAnd z P) (sym is) holds

-- what is found stands where it is found
pub found_slice : {A : Type 0} (p : A → Bool) (xs : List A) (i : ℕ) → Some i ≡ position p xs → find p xs ≡ slice_get xs i
found_slice p [] i is = cc
found_slice p (x ∷ xs) i is =
    find-position p (x ∷ xs) i x (sym is) ∙ sym (slice_get-get_or (x ∷ xs) i x (position-Some p (x ∷ xs) i x (sym is)).0)
