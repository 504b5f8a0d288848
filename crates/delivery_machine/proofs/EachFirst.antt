-- What the first subscription of each name has, after a change of the subscriptions.
use Rattle.std.proofs.Common.{◌≡◌, ℕ, List, map, Some, None, Bool, true, false, refl, ap, ◌∙◌, sym, subst, inl, inr}
use Rattle.std.specs.List.{find}
use Rattle.std.specs.Str.{bytes_eq}
use Rattle.delivery_machine.specs.State.{Subscription}
use Rattle.delivery_machine.specs.Words.{changed, removed, is_named}
use Rattle.delivery_machine.specs.Joining.{placed}
use Rattle.delivery_machine.proofs.Firsts.{found_changed, found_mapped, found_inserted, found_passes}
use Rattle.delivery_machine.proofs.Behind.{IsIdle, AllBehindIdle, other_name, same_name, found_removed}
use Rattle.delivery_machine.proofs.Finding.{find_removed}
use Rattle.delivery_machine.proofs.Tending.{names_apart}

abbrev pub EachFirst : (Subscription → Type 0) → List Subscription → Type 0
EachFirst P subs = (name : List ℕ) (sub : Subscription) → find (is_named name) subs ≡ Some sub → P sub

pub each_kept : (P Q : Subscription → Type 0) (subs : List Subscription) → ((sub : Subscription) → P sub → Q sub) → EachFirst P subs → EachFirst Q subs
each_kept P Q subs step all name sub found = step sub (all name sub found)

pub each_changed : (P Q : Subscription → Type 0) (n : List ℕ) (f : Subscription → Subscription) (subs : List Subscription) → ((sub : Subscription) → (f sub).name ≡ sub.name)
    → ((sub : Subscription) → is_named n sub ≡ false → P sub → Q sub) → ((sub : Subscription) → find (is_named n) subs ≡ Some sub → P sub → Q (f sub))
    → EachFirst P subs → EachFirst Q (changed (is_named n) f subs)
each_changed P Q n f subs same others there all name sub found =
    elim (found_changed (is_named name) (is_named n) f (λ x. ap (λ (m : List ℕ). bytes_eq m name) (same x)) (names_apart name n) subs sub found) [
      | inl a ↦ others sub a.1 (all name sub a.0)
      | inr b ↦ subst Q (sym b.3) (there b.0 b.2 (all name b.0 b.1))
    ]

pub each_mapped : (P Q : Subscription → Type 0) (f : Subscription → Subscription) (subs : List Subscription) → ((sub : Subscription) → (f sub).name ≡ sub.name)
    → ((sub : Subscription) → P sub → Q (f sub)) → EachFirst P subs → EachFirst Q (map f subs)
each_mapped P Q f subs same step all name sub found =
    let was = found_mapped (is_named name) f (λ x. ap (λ (m : List ℕ). bytes_eq m name) (same x)) subs sub found in
    subst Q (sym was.2) (step was.0 (all name was.0 was.1))

-- none of the others has the new one's name
pub each_placed : (P Q : Subscription → Type 0) (new : Subscription) (subs : List Subscription) → find (is_named new.name) subs ≡ None → Q new
    → ((sub : Subscription) → is_named new.name sub ≡ false → P sub → Q sub) → EachFirst P subs → EachFirst Q (placed new subs)
each_placed P Q new subs none has others all name sub found =
    elim (found_inserted (is_named name) subs _ new sub found) [
      | inl a ↦ subst Q (sym a) has
      | inr b ↦ others sub (other b (is_named new.name sub) refl) (all name sub b)
    ]
  where
    other : find (is_named name) subs ≡ Some sub → (t : Bool) → is_named new.name sub ≡ t → t ≡ false
    other b false e = refl
    other b true e =
        let named : name ≡ new.name = sym (same_name sub.name name (found_passes (is_named name) subs sub b)) ∙ same_name sub.name new.name e in
        let both = sym (subst (λ (m : List ℕ). find (is_named m) subs ≡ Some sub) named b) ∙ none in
        cc

-- where the first of a name goes: one that is then the first is idle
pub each_removed : (P Q : Subscription → Type 0) (n : List ℕ) (subs : List Subscription) → AllBehindIdle subs
    → ((sub : Subscription) → P sub → Q sub) → ((sub : Subscription) → sub.name ≡ n → IsIdle sub → Q sub) → EachFirst P subs → EachFirst Q (removed (is_named n) subs)
each_removed P Q n subs behind others next all name sub found = by (bytes_eq name n) refl
  where
    by : (b : Bool) → bytes_eq name n ≡ b → Q sub
    by false differs = others sub (all name sub (sym (find_removed (is_named name) (is_named n) (λ x. other_name name n x differs) subs) ∙ found))
    by true same = elim (found_removed name n subs sub behind found) [
      | inl a ↦ others sub (all name sub a)
      | inr idle ↦ next sub (same_name sub.name name (found_passes (is_named name) (removed (is_named n) subs) sub found) ∙ same_name name n same) idle
    ]
