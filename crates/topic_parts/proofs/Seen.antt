-- The members of a subscription, by the line of their numbers.
use Rattle.std.proofs.Common.{◌≡◌, ℕ, ◌<◌, List, length, Bool, Some, None, Option, refl, ap, ◌∙◌, sym, Contains, slice_get, ◌^◌, arith}
use Rattle.std.specs.List.{filter, find}
use Rattle.std.specs.Option.{option_map}
use Rattle.std.proofs.lemmas.List.{length-map}
use Rattle.std.proofs.lemmas.Option.{slice_get_within, slice_get-map, get_or_from_slice_get}
use Rattle.delivery_machine.specs.State.{Member}
use Rattle.delivery_machine.specs.Words.{is_at, is_member}
use Rattle.dispatch_core.specs.declared.view.Seen.{Seen}
use Rattle.delivery_machine.proofs.Firsts.{filter_contained}
use Rattle.delivery_machine.proofs.Places.{found_there}
use Rattle.topic_members.specs.Members.{NumbersRise}
use Rattle.topic_subscriptions.specs.Placed.{line_at}
use Rattle.topic_members.proofs.Halving.{found}

-- nobody stands where no number does
pub none_in_line : (name : List ℕ) (ms : List Member) (place : ℕ) → slice_get (line_at name ms) place ≡ None → slice_get (filter (is_at name) ms) place ≡ None
none_in_line name ms place none = by (slice_get (filter (is_at name) ms) place) (sym (slice_get-map (λ (m : Member). m.number) (filter (is_at name) ms) place) ∙ none)
  where
    by : (o : Option Member) → option_map (λ (m : Member). m.number) o ≡ None → o ≡ None
    by None is = refl
    by (Some m) is = cc

-- the member of a number in the line
pub one_in_line : (name : List ℕ) (ms : List Member) (place n : ℕ) → NumbersRise ms → slice_get (line_at name ms) place ≡ Some n → (m : Member) × (slice_get (filter (is_at name) ms) place ≡ Some m) × (m.number ≡ n) × (find (is_member n) ms ≡ Some m)
one_in_line name ms place n rising is = by (slice_get (filter (is_at name) ms) place) refl (sym (slice_get-map (λ (m : Member). m.number) (filter (is_at name) ms) place) ∙ is)
  where
    by : (o : Option Member) → slice_get (filter (is_at name) ms) place ≡ o → option_map (λ (m : Member). m.number) o ≡ Some n → (m : Member) × (slice_get (filter (is_at name) ms) place ≡ Some m) × (m.number ≡ n) × (find (is_member n) ms ≡ Some m)
    by None at none = cc
    by (Some m) at some =
        let number : m.number ≡ n = cc (some) in
        let there : Contains ms m = filter_contained (is_at name) ms m (place, slice_get_within (filter (is_at name) ms) place m at, get_or_from_slice_get (filter (is_at name) ms) place m m at) in
        let stands = found ms n there.0 m rising there.1 (sym there.2) number in
        (m, at, number, found_there (is_member n) ms there.0 m stands ∙ ap (λ (x : Member). Some x) there.2)

-- what is seen of it
pub seen_is : (g : Member → Bool) (n level : ℕ) (room : Bool) (m x : Member) → ◌≡◌ {A = Option Member} (Some m) (Some x) → x.number ≡ n → level ≡ m.level → room ≡ g m → ◌≡◌ {A = Option Seen} (Some (record { consumer = n; level = level; room = room })) (Some (record { consumer = x.number; level = x.level; room = g x }))
seen_is g n level room m x same number level_is room_is = cc

pub found_none : (o : Option Member) (m : Member) → None ≡ o → o ≡ Some m → ⊥
found_none o m none some = cc

pub few_in_line : (name : List ℕ) (ms : List Member) (line : List ℕ) → line ≡ line_at name ms → length line < 2 ^ 64 → length (filter (is_at name) ms) < 2 ^ 64
few_in_line name ms line is few = omega (arith, few, ap (λ (ns : List ℕ). length ns) is, length-map (filter (is_at name) ms) (λ (m : Member). m.number))
