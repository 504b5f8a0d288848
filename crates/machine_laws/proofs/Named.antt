-- Subscriptions by rising names: each is the first of its name.
use Rattle.std.proofs.Common.{◌≡◌, ℕ, List, map, Some, None, Bool, true, false, get_or, refl, ◌∙◌, sym, subst, All, Contains}
use Rattle.std.specs.List.{find}
use Rattle.std.specs.Ordering.{is_eq}
use Rattle.std.specs.Cmp.Lexicographic.{nat_list_cmp_total}
use Rattle.std.proofs.lemmas.Map.Text.{is_eq-slice_cmp}
use Rattle.std.proofs.lemmas.List.Elements.{All-contains, Contains-get_or}
use Rattle.position_core.specs.Name.{name_order}
use Rattle.delivery_machine.specs.State.{Subscription}
use Rattle.delivery_machine.specs.Words.{changed, removed, is_named}
use Rattle.delivery_machine.specs.Joining.{placed}
use Rattle.delivery_machine.specs.WellFormed.{NamesRise}
use Rattle.delivery_machine.proofs.Firsts.{found_contained, found_passes}
use Rattle.delivery_machine.proofs.Behind.{same_name, is_same_name, names_differ, each_unfound}
use Rattle.delivery_machine.proofs.EachFirst.{EachFirst}
use Rattle.delivery_machine.proofs.Keyed.{sorted_inserted, keys_changed, keys_mapped}
use Rattle.delivery_machine.proofs.Among.{contained_removed, key_differs, found_by_key}

abbrev pub AreNamed : List Subscription → Type 0
AreNamed subs = NamesRise (map (λ sub. sub.name) subs)

pub named_placed : (new : Subscription) (subs : List Subscription) → find (is_named new.name) subs ≡ None → AreNamed subs → AreNamed (placed new subs)
named_placed new subs none named =
    sorted_inserted (λ (sub : Subscription). sub.name) name_order nat_list_cmp_total new subs
    (each_unfound (λ sub. is_eq (name_order new.name sub.name) ≡ false) (is_named new.name) subs none (λ sub f. is_eq-slice_cmp new.name sub.name ∙ names_differ sub.name new.name f))
    named

pub named_changed : (n : List ℕ) (f : Subscription → Subscription) (subs : List Subscription) → ((sub : Subscription) → (f sub).name ≡ sub.name) → AreNamed subs → AreNamed (changed (is_named n) f subs)
named_changed n f subs same named = subst NamesRise (sym (keys_changed (λ (sub : Subscription). sub.name) (is_named n) f same subs)) named

pub named_mapped : (f : Subscription → Subscription) (subs : List Subscription) → ((sub : Subscription) → (f sub).name ≡ sub.name) → AreNamed subs → AreNamed (map f subs)
named_mapped f subs same named = subst NamesRise (sym (keys_mapped (λ (sub : Subscription). sub.name) f same subs)) named

-- each is found by its name
pub named_found : (name : List ℕ) (subs : List Subscription) (sub : Subscription) → AreNamed subs → is_named name sub ≡ true → Contains subs sub → find (is_named name) subs ≡ Some sub
named_found name subs sub named is at =
    found_by_key name_order nat_list_cmp_total (λ sub. sub.name) (is_named name) subs sub (λ other t. same_name other.name name t ∙ sym (same_name sub.name name is)) named is at

pub all_from_each : (P : Subscription → Type 0) (subs : List Subscription) → AreNamed subs → EachFirst P subs → All P subs
all_from_each P subs named each k d below =
    let sub : Subscription = get_or subs k d in
    each sub.name sub (named_found sub.name subs sub named (is_same_name sub.name sub.name refl) (Contains-get_or subs k d below))

pub each_from_all : (P : Subscription → Type 0) (subs : List Subscription) → All P subs → EachFirst P subs
each_from_all P subs all name sub found = All-contains P subs sub all (found_contained (is_named name) subs sub found)

-- where the subscription of a name goes, none of the name is left, and each other one is found as before
pub found_left : (name n : List ℕ) (subs : List Subscription) (sub : Subscription) → AreNamed subs → find (is_named name) (removed (is_named n) subs) ≡ Some sub → (find (is_named name) subs ≡ Some sub) × (is_named n sub ≡ false)
found_left name n subs sub named found = (named_found name subs sub named passes was, by (is_named n sub) refl)
  where
    passes : is_named name sub ≡ true
    passes = found_passes (is_named name) (removed (is_named n) subs) sub found

    left : Contains (removed (is_named n) subs) sub
    left = found_contained (is_named name) (removed (is_named n) subs) sub found

    was : Contains subs sub
    was = contained_removed (is_named n) subs sub left

    by : (b : Bool) → is_named n sub ≡ b → b ≡ false
    by false f = refl
    by true t = absurd (key_differs name_order nat_list_cmp_total (λ sub. sub.name) (is_named n) subs sub sub named (named_found n subs sub named t was) left refl)
