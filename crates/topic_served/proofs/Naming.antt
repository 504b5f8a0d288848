-- Subscriptions at different places have different names, so that a member of one is no member of another.
use Rattle.std.proofs.Common.{◌≡◌, ℕ, ◌<◌, List, map, Some, Bool, true, false, get_or, inl, inr, refl, ap, ap₂, ◌∙◌, sym, arith}
use Rattle.std.specs.Prelude.{◌≢◌, slice_get}
use Rattle.std.specs.List.{position}
use Rattle.std.specs.Cmp.Lexicographic.{nat_list_cmp_total}
use Rattle.std.specs.Str.{bytes_eq}
use Rattle.std.specs.declared.cmp.Ordering.TheVariants.{Less}
use Rattle.std.proofs.lemmas.Bool.{cases_lt}
use Rattle.std.proofs.lemmas.List.{length-map}
use Rattle.std.proofs.lemmas.List.Quantifiers.{position-Some}
use Rattle.std.proofs.lemmas.Map.Keys.{Less-from_sorted}
use Rattle.std.proofs.lemmas.Option.{slice_get_within, get_or_from_slice_get}
use Rattle.std.proofs.Math.ListN.{get_or-map}
use Rattle.position_core.specs.Name.{name_order}
use Rattle.delivery_machine.specs.State.{Subscription}
use Rattle.delivery_machine.specs.Words.{is_named}
use Rattle.delivery_machine.proofs.Behind.{same_name}
use Rattle.machine_laws.proofs.Named.{AreNamed}
use Rattle.delivery_machine.proofs.Rising.{below_itself}

earlier_name : (subs : List Subscription) (i j : ℕ) (x y : Subscription) → AreNamed subs → i < j → slice_get subs i ≡ Some x → slice_get subs j ≡ Some y → name_order x.name y.name ≡ Less
earlier_name subs i j x y named low at_i at_j =
    let f : Subscription → List ℕ = λ sub. sub.name in
    let a : get_or (map f subs) i x.name ≡ x.name = get_or-map f subs i x ∙ ap f (get_or_from_slice_get subs i x x at_i) in
    let b : get_or (map f subs) j x.name ≡ y.name = get_or-map f subs j x ∙ ap f (get_or_from_slice_get subs j y x at_j) in
    let less = Less-from_sorted name_order (map f subs) i j x.name named low (omega (arith, length-map subs f, slice_get_within subs j y at_j)) in
    sym (ap₂ (λ p q. name_order p q) a b) ∙ less

pub names_apart : (subs : List Subscription) (i j : ℕ) (x y : Subscription) → AreNamed subs → j ≢ i → slice_get subs i ≡ Some x → slice_get subs j ≡ Some y → bytes_eq x.name y.name ≡ false
names_apart subs i j x y named other at_i at_j = by (bytes_eq x.name y.name) refl
  where
    by : (b : Bool) → bytes_eq x.name y.name ≡ b → b ≡ false
    by false is = refl
    by true is =
        let same : x.name ≡ y.name = same_name x.name y.name is in
        elim (cases_lt i j) [
          | inl before ↦ absurd (below_itself nat_list_cmp_total x.name (ap (name_order x.name) same ∙ earlier_name subs i j x y named before at_i at_j))
          | inr not_before ↦ elim (cases_lt j i) [
            | inl after ↦ absurd (below_itself nat_list_cmp_total y.name (ap (name_order y.name) (sym same) ∙ earlier_name subs j i y x named after at_j at_i))
            | inr not_after ↦ absurd (other (omega arith))
          ]
        ]

-- the one that is found by a name has it
pub has_name : (subs : List Subscription) (name : List ℕ) (i : ℕ) (sub : Subscription) → position (is_named name) subs ≡ Some i → slice_get subs i ≡ Some sub → sub.name ≡ name
has_name subs name i sub place was =
    let is = position-Some (is_named name) subs i sub place in
    same_name sub.name name (sym (ap (is_named name) (get_or_from_slice_get subs i sub sub was)) ∙ is.1)
