-- One of the subscriptions changes, and the members do not.
use Rattle.std.proofs.Common.{◌≡◌, ℕ, ◌<◌, List, length, Some, None, Option, true, get_or, refl, ap, ◌∙◌, sym, slice_get}
use Rattle.std.specs.Prelude.{Vec}
use Rattle.std.specs.Vec.{with_item}
use Rattle.std.proofs.lemmas.List.Elements.{All-contains}
use Rattle.std.proofs.lemmas.Option.{slice_get-get_or}
use Rattle.std.proofs.Math.ListN.{length-set}
use Rattle.position_core.specs.declared.held.Held.{Held}
use Rattle.pending_core.proofs.Elements.{slice_get-set_same}
use Rattle.delivery_machine.specs.State.{Subscription}
use Rattle.delivery_machine.specs.Words.{is_held_by}
use Rattle.delivery_machine.proofs.Deciding.{number_is}
use Rattle.topic_subscriptions.specs.Placed.{IsPlacedIn, Placed, sub_in}
use Rattle.topic_parts.specs.Holding.{ChangesAt}
use Rattle.topic_parts.specs.Parts.{AreTied, log_of, state_of}
use Rattle.topic_parts.specs.declared.parts.Parts.{Parts}
use Rattle.topic_parts.proofs.Changing.{changed_sub, tied_at, with_same, written_back}

module _ (t : Parts) (place : ℕ) (within : place < length t.subscriptions.items) (x : Placed) (at : x ≡ get_or t.subscriptions.items place x) where
  -- it is the one at the place
  pub it : slice_get t.subscriptions.items place ≡ Some x
  it = slice_get-get_or t.subscriptions.items place x within ∙ ap (λ (p : Placed). Some p) (sym at)

  pub one : (p : Placed) → slice_get t.subscriptions.items place ≡ Some p → p ≡ x
  one p there = some_is (sym there ∙ it)
    where
      some_is : ◌≡◌ {A = Option Placed} (Some p) (Some x) → p ≡ x
      some_is is = cc

  pub tied_one : AreTied t → IsPlacedIn (log_of t) t.members.members x
  tied_one tied = All-contains (IsPlacedIn (log_of t) t.members.members) t.subscriptions.items x tied (place, within, sym at)

  pub changes : (f : Placed → Placed) (g : Subscription → Subscription) (y : Placed) → y ≡ f x → sub_in (log_of t) (f x) ≡ g (sub_in (log_of t) x) → ChangesAt place f g t (record t { subscriptions = with_item t.subscriptions place y })
  changes f g y is machine = record {
    subscription = λ p there. slice_get-set_same t.subscriptions.items place y within ∙ ap (λ (q : Placed). Some q) (is ∙ ap f (sym (one p there)));
    state = λ name there. ap (λ (ss : List Subscription). record (state_of t) { subscriptions = ss }) (changed_sub (log_of t) t.subscriptions.items name place there g x y at (ap (sub_in (log_of t)) is ∙ machine));
    rest = refl;
    many = length-set t.subscriptions.items place y;
  }

  pub tied_again : (y : Placed) → AreTied t → IsPlacedIn (log_of t) t.members.members y → AreTied (record t { subscriptions = with_item t.subscriptions place y })
  tied_again y tied new = tied_at (log_of t) t.members.members t.members.members t.subscriptions.items place y (λ _. refl) tied new

  -- where it is as it was, so is all
  pub as_before : (y : Placed) → y ≡ x → record t { subscriptions = with_item t.subscriptions place y } ≡ t
  as_before y same = ap (λ (subs : Vec Placed _). record t { subscriptions = subs }) (with_same t.subscriptions place y (written_back t.subscriptions.items place x y at same))

-- who holds it
pub holder_is : (consumer : ℕ) (o : Option Held) → is_held_by consumer o ≡ true → (h : Held) × (o ≡ Some h) × (h.consumer ≡ consumer)
holder_is consumer None held = cc
holder_is consumer (Some h) held = (h, refl, number_is h.consumer consumer held)
