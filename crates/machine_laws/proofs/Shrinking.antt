-- Each subscription that is found was found before, with no less pending, or has nothing pending.
use Rattle.std.proofs.Common.{◌≡◌, ℕ, List, map, Some, refl, ap, ◌∙◌, sym, subst, ◌⊎◌, inl, inr}
use Rattle.std.specs.List.{find}
use Rattle.std.specs.Str.{bytes_eq}
use Rattle.std.specs.FinMap as map_of
use Rattle.position_core.specs.declared.held.Held.{Held}
use Rattle.position_core.specs.Position.{position_cmp}
use Rattle.delivery_machine.specs.State.{Subscription}
use Rattle.delivery_machine.specs.Words.{changed, removed, is_named}
use Rattle.delivery_machine.specs.Joining.{placed}
use Rattle.delivery_machine.proofs.Firsts.{found_changed, found_mapped, found_inserted}
use Rattle.delivery_machine.proofs.Behind.{IsIdle, AllBehindIdle, found_removed}
use Rattle.delivery_machine.proofs.Tended.{IsPartOf}
use Rattle.delivery_machine.proofs.Tending.{names_apart}

abbrev pub WasMore : List Subscription → List ℕ → Subscription → Type 0
WasMore subs name new =
    ((old : Subscription) × (find (is_named name) subs ≡ Some old) × IsPartOf new.pending old.pending)
    ⊎ IsIdle new

abbrev pub Shrinks : List Subscription → List Subscription → Type 0
Shrinks before after = (name : List ℕ) (sub : Subscription) → find (is_named name) after ≡ Some sub → WasMore before name sub

pub part_itself : (pending : map_of.FinMap position_cmp Held) → IsPartOf pending pending
part_itself pending p h is = (h, is, refl)

pub part_then : (a b c : map_of.FinMap position_cmp Held) → IsPartOf b a → IsPartOf c b → IsPartOf c a
part_then a b c first second p h is =
    let k = second p h is in
    let l = first p k.0 k.1 in
    (l.0, l.1, l.2 ∙ k.2)

pub shrinks_not : (subs : List Subscription) → Shrinks subs subs
shrinks_not subs name sub found = inl (sub, found, part_itself sub.pending)

pub shrinks_then : (a b c : List Subscription) → Shrinks a b → Shrinks b c → Shrinks a c
shrinks_then a b c first second name sub found = elim (second name sub found) [
  | inl mid ↦ elim (first name mid.0 mid.1) [
    | inl old ↦ inl (old.0, old.1, part_then old.0.pending mid.0.pending sub.pending old.2 mid.2)
    | inr idle ↦ inr (λ p h is. let k = mid.2 p h is in idle p k.0 k.1)
  ]
  | inr idle ↦ inr idle
]

pub shrinks_changed : (n : List ℕ) (f : Subscription → Subscription) (subs : List Subscription) → ((sub : Subscription) → (f sub).name ≡ sub.name)
    → ((sub : Subscription) → find (is_named n) subs ≡ Some sub → IsPartOf (f sub).pending sub.pending)
    → Shrinks subs (changed (is_named n) f subs)
shrinks_changed n f subs same part name sub found =
    elim (found_changed (is_named name) (is_named n) f (λ x. ap (λ (m : List ℕ). bytes_eq m name) (same x)) (names_apart name n) subs sub found) [
      | inl a ↦ inl (sub, a.0, part_itself sub.pending)
      | inr b ↦ inl (b.0, b.1, subst (λ (z : Subscription). IsPartOf z.pending b.0.pending) (sym b.3) (part b.0 b.2))
    ]

pub shrinks_mapped : (f : Subscription → Subscription) (subs : List Subscription) → ((sub : Subscription) → (f sub).name ≡ sub.name) → ((sub : Subscription) → (f sub).pending ≡ sub.pending)
    → Shrinks subs (map f subs)
shrinks_mapped f subs names same name sub found =
    let was = found_mapped (is_named name) f (λ x. ap (λ (m : List ℕ). bytes_eq m name) (names x)) subs sub found in
    inl (was.0, was.1, subst (λ (pending : map_of.FinMap position_cmp Held). IsPartOf pending was.0.pending) (sym (ap (λ (z : Subscription). z.pending) was.2 ∙ same was.0)) (part_itself was.0.pending))

pub shrinks_placed : (new : Subscription) (subs : List Subscription) → IsIdle new → Shrinks subs (placed new subs)
shrinks_placed new subs idle name sub found =
    elim (found_inserted (is_named name) subs _ new sub found) [
      | inl a ↦ inr (subst IsIdle (sym a) idle)
      | inr b ↦ inl (sub, b, part_itself sub.pending)
    ]

pub shrinks_removed : (n : List ℕ) (subs : List Subscription) → AllBehindIdle subs → Shrinks subs (removed (is_named n) subs)
shrinks_removed n subs behind name sub found =
    elim (found_removed name n subs sub behind found) [
      | inl a ↦ inl (sub, a, part_itself sub.pending)
      | inr idle ↦ inr idle
    ]
