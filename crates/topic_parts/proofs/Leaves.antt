-- A message leaves one of the subscriptions, and its holder has no copy of it left.
use Rattle.std.proofs.Common.{◌≡◌, ℕ, List, [], ◌∷◌, map, Some, None, Option, Bool, true, false, cond, All, get_or, set, refl, ap, ap₂, ◌∙◌, sym, subst, slice_get}
use Rattle.std.specs.List.{position}
use Rattle.std.specs.Prelude.{nat_lt}
use Rattle.std.specs.Vec.{with_item}
use Rattle.std.specs.Option.{option_map}
use Rattle.std.specs.FinMap as map_of
use Rattle.position_core.specs.declared.position.Position.{Position}
use Rattle.position_core.specs.declared.message.Entry.{Entry}
use Rattle.position_core.specs.declared.held.Held.{Held}
use Rattle.log_pieces.specs.Pieces.{index_of}
use Rattle.delivery_machine.specs.State.{Member, Subscription, DeadLetter}
use Rattle.delivery_machine.specs.Words.{changed, is_named}
use Rattle.delivery_machine.specs.Acknowledging.{forgetting}
use Rattle.delivery_machine.specs.Dying.{moving}
use Rattle.delivery_machine.specs.WellFormed.{IsWellFormed}
use Rattle.dead_core.specs.Letters.{next_safe}
use Rattle.topic_members.specs.Members.{NumbersRise}
use Rattle.topic_subscriptions.specs.Placed.{IsPlacedIn, IsRising, Placed, buried_at, is_placed, moved_from, sub_in}
use Rattle.topic_subscriptions.proofs.Changes.{moved_in, moved_placed}
use Rattle.topic_subscriptions.proofs.Dying.{buried_placed}
use Rattle.topic_parts.specs.Leaving.{left_out_of}
use Rattle.topic_parts.specs.Parts.{AreTied, log_of, state_of}
use Rattle.topic_parts.specs.declared.parts.Parts.{Parts}
use Rattle.topic_parts.proofs.Acknowledged.{left_out_is, line_left_out, placed_beside, stands}
use Rattle.topic_parts.proofs.Changing.{changed_sub, named_sub, read_twice, tied_at}

-- ---- subscriptions, by the index of the message

pub buried_of : (log : List Entry) (ms : List Member) (i : ℕ) (letter : DeadLetter) (p : Placed) → IsRising log → index_of letter.position log ≡ Some i → IsPlacedIn log ms p → IsPlacedIn log ms (buried_at i letter p)
buried_of log ms i letter p rising is placed =
    let at = stands log letter.position i is in
    buried_placed log ms i at.0 letter p rising at.1 (sym at.2) placed

-- the first letter that is safe is the first one
first_letter : (p : Placed) (letter : DeadLetter) → next_safe p.letters ≡ Some letter → slice_get p.letters.dead 0 ≡ Some letter
first_letter p letter first = by (nat_lt 0 p.letters.safe) first
  where
    by : (b : Bool) → cond b (slice_get p.letters.dead 0) None ≡ Some letter → slice_get p.letters.dead 0 ≡ Some letter
    by true is = is
    by false none = cc

pub has_letter : (q : Position) (o : Option DeadLetter) → option_map (λ (d : DeadLetter). d.position) o ≡ Some q → (letter : DeadLetter) × (o ≡ Some letter) × (letter.position ≡ q)
has_letter q None is = cc
has_letter q (Some letter) is = (letter, refl, cc)

pub letter_at : (q : Position) (o : Option DeadLetter) (letter : DeadLetter) → option_map (λ (d : DeadLetter). d.position) o ≡ Some q → o ≡ Some letter → letter.position ≡ q
letter_at q o letter is some = let same : ◌≡◌ {A = Option Position} (Some letter.position) (Some q) = sym (ap (option_map (λ (d : DeadLetter). d.position)) some) ∙ is in cc

pub moved_into : (log : List Entry) (ms : List Member) (i : ℕ) (q : Position) (p : Placed) (letter : DeadLetter) → IsRising log → index_of q log ≡ Some i → letter.position ≡ q → IsPlacedIn log ms p → sub_in log (moved_from i q p) ≡ moving letter (sub_in log p)
moved_into log ms i q p letter rising is same placed =
    let at = stands log q i is in
    subst (λ (r : Position). sub_in log (moved_from i r p) ≡ moving letter (sub_in log p)) at.2 (moved_in log ms i at.0 p rising at.1 placed letter (same ∙ sym at.2))

pub moved_of : (log : List Entry) (ms : List Member) (i : ℕ) (q : Position) (p : Placed) (letter : DeadLetter) → IsRising log → index_of q log ≡ Some i → letter.position ≡ q → next_safe p.letters ≡ Some letter → IsPlacedIn log ms p → IsPlacedIn log ms (moved_from i q p)
moved_of log ms i q p letter rising is same first placed =
    let at = stands log q i is in
    subst (λ (r : Position). IsPlacedIn log ms (moved_from i r p)) at.2 (moved_placed log ms i at.0 p rising at.1 placed letter (same ∙ sym at.2) (first_letter p letter first))

-- ---- the parts

module _ (t after : Parts) (place : ℕ) (x y : Placed) (q : Position) (holder : Option ℕ)
    (at : x ≡ get_or t.subscriptions.items place x)
    (members_are : after.members.members ≡ left_out_of holder q t.members.members)
    (next_is : after.members.next ≡ t.members.next)
    (rest_is : after ≡ record t { subscriptions = with_item t.subscriptions place y; members = after.members })
  where
    pub left_state : (name : List ℕ) (g : Subscription → Subscription) (was : Placed) → Some place ≡ position (is_placed name) t.subscriptions.items → IsWellFormed (state_of t) → NumbersRise t.members.members
        → was ≡ get_or t.subscriptions.items place was → holder ≡ option_map (λ (h : Held). h.consumer) (map_of.get was.pending.pending q) → sub_in (log_of t) y ≡ g (sub_in (log_of t) x)
        → state_of after ≡ record (state_of t) { subscriptions = changed (is_named name) g (state_of t).subscriptions; members = map (forgetting name (q ∷ [])) t.members.members }
    left_state name g was there well rising was_at holder_is is =
        let log = log_of t in
        let subs = t.subscriptions.items in
        let held = holder_is ∙ ap (λ (p : Placed). option_map (λ (h : Held). h.consumer) (map_of.get p.pending.pending q)) (read_twice log subs name place there was x was_at at) in
        let subs_is = changed_sub log subs name place there g x y at is in
        let members_is = ap (λ (o : Option ℕ). left_out_of o q t.members.members) held ∙ left_out_is (state_of t) name (sub_in log x) q well rising (named_sub log subs name place there x at) in
        ap state_of rest_is
        ∙ ap₂ (λ (ms : List Member) (n : ℕ). record (state_of t) { subscriptions = map (sub_in log) (set subs place y); members = ms; next_consumer = n }) members_are next_is
        ∙ ap₂ (λ (ss : List Subscription) (ms : List Member). record (state_of t) { subscriptions = ss; members = ms }) subs_is members_is

    pub left_tied : AreTied t → IsPlacedIn (log_of t) t.members.members y → AreTied after
    left_tied tied new =
        let log = log_of t in
        let ms = t.members.members in
        let lines = line_left_out holder q ms in
        subst (λ (p : Parts). AreTied p) (sym rest_is)
        (subst (λ (xs : List Member). All (IsPlacedIn log xs) (set t.subscriptions.items place y)) (sym members_are)
        (tied_at log ms (left_out_of holder q ms) t.subscriptions.items place y lines tied (placed_beside log ms (left_out_of holder q ms) y (lines y.name) new)))
