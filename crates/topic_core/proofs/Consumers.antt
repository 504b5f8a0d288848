-- What a consumer has, by where its subscription stands.
use Rattle.std.proofs.Common.{◌≡◌, ℕ, ◌∙◌, List, Option, Some, ap, ap₂, sym, slice_get}
use Rattle.std.specs.List.{find, position}
use Rattle.std.specs.Option.{option_and_then, option_map}
use Rattle.std.proofs.lemmas.Option.{get_or_from_slice_get}
use Rattle.position_core.specs.Numbers.{ConsumerNumber}
use Rattle.delivery_machine.specs.State.{State, Member, Subscription}
use Rattle.delivery_machine.specs.Words.{is_member, is_named, pending_in}
use Rattle.topic_subscriptions.specs.Placed.{Placed, is_placed, sub_in}
use Rattle.topic_parts.specs.declared.parts.Parts.{Parts}
use Rattle.topic_parts.specs.Parts.{log_of, state_of}
use Rattle.topic_parts.proofs.Changing.{named_sub}
use Rattle.delivery_machine.specs.declared.consumer_counts.ConsumerCounts.{ConsumerCounts}
use Rattle.delivery_machine.specs.ConsumerCounts.{counts_in, counts_of, room_of}

-- from its two numbers
pub counts_are : (s : State) (sub : Subscription) (m : Member) (pending room : ℕ) → pending ≡ pending_in s.log sub m.number → room ≡ room_of m.flow pending
    → ◌≡◌ {A = ConsumerCounts} (record { pending = pending; room = room }) (counts_in s sub m)
counts_are s sub m pending room is left = ap₂ counted is (left ∙ ap (room_of m.flow) is)
  where
    counted : ℕ → ℕ → ConsumerCounts
    counted p r = record { pending = p; room = r }

-- the member is there, and so may its subscription be
pub counts_by : (s : State) (consumer : ConsumerNumber) (m : Member) (o : Option Subscription) → find (is_member consumer) s.members ≡ Some m → find (is_named m.subscription) s.subscriptions ≡ o
    → counts_of s consumer ≡ option_map (λ sub. counts_in s sub m) o
counts_by s consumer m o member sub =
    ap (option_and_then (λ (x : Member). option_map (λ y. counts_in s y x) (find (is_named x.subscription) s.subscriptions))) member
    ∙ ap (option_map (λ y. counts_in s y m)) sub

-- the subscription at its place
pub subscription_at : (t : Parts) (name : List ℕ) (place : ℕ) (x : Placed) → Some place ≡ position (is_placed name) t.subscriptions.items → Some x ≡ slice_get t.subscriptions.items place
    → find (is_named name) (state_of t).subscriptions ≡ Some (sub_in (log_of t) x)
subscription_at t name place x there is =
    named_sub (log_of t) t.subscriptions.items name place there x (sym (get_or_from_slice_get t.subscriptions.items place x x (sym is)))
