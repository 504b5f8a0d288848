-- Whether a message is pending at a consumer of a subscription.
use Rattle.std.proofs.Common.{◌≡◌, ℕ, List, Some, None, Option, Bool, true, false, get_or, refl, ap, ◌∙◌, sym, subst, arith}
use Rattle.std.specs.Prelude.{◌==◌, ◌+◌, if◌then◌else◌, IsSomeAnd}
use Rattle.std.specs.List.{find, position}
use Rattle.std.specs.Option.{option_map, option_map_or}
use Rattle.std.specs.FinMap as map_of
use Rattle.std.proofs.lemmas.Bool.Decides.{nat_tests}
use Rattle.position_core.specs.declared.position.Position.{Position}
use Rattle.position_core.specs.declared.held.Held.{Held}
use Rattle.position_core.specs.declared.fault.Fault.TheVariants.{NotPending}
use Rattle.delivery_machine.specs.State.{State, Member, Subscription}
use Rattle.delivery_machine.specs.Words.{changed, is_held_at, is_held_by, is_member, is_named}
use Rattle.delivery_machine.specs.Delivering.{holding}
use Rattle.delivery_machine.specs.Refusals.{nacking_refused}
use Rattle.delivery_machine.specs.Run.{Answers}
use Rattle.delivery_machine.specs.declared.event.Event.TheVariants.{Nack}
use Rattle.delivery_machine.specs.declared.reply.Reply.TheVariants.{Done}
use Rattle.delivery_machine.proofs.Places.{found_nothing}
use Rattle.topic_subscriptions.specs.Placed.{Placed, is_placed}
use Rattle.topic_parts.specs.Parts.{log_of, state_of}
use Rattle.topic_parts.specs.declared.parts.Parts.{Parts}
use Rattle.topic_parts.proofs.Changing.{named_sub}

pub held_nowhere : (s : State) (name : List ℕ) (consumer : ℕ) (q : Position) → None ≡ position (is_named name) s.subscriptions → is_held_at s name consumer q ≡ false
held_nowhere s name consumer q nowhere = ap (λ (o : Option Subscription). option_map_or (λ sub. is_held_by consumer (map_of.get sub.pending q)) o false) (found_nothing (is_named name) s.subscriptions nowhere)

-- the subscription itself tells
pub held_there : (t : Parts) (name : List ℕ) (consumer : ℕ) (q : Position) (place : ℕ) (x : Placed) → Some place ≡ position (is_placed name) t.subscriptions.items → x ≡ get_or t.subscriptions.items place x
    → is_held_at (state_of t) name consumer q ≡ is_held_by consumer (map_of.get x.pending.pending q)
held_there t name consumer q place x there at =
    ap (λ (o : Option Subscription). option_map_or (λ sub. is_held_by consumer (map_of.get sub.pending q)) o false) (named_sub (log_of t) t.subscriptions.items name place there x at)

same_number : (a b : ℕ) → a ≡ b → (a == b) ≡ true
same_number a b is = grind (arith, nat_tests)

other_number : (a b : ℕ) → (a ≡ b → ⊥) → (a == b) ≡ false
other_number a b differ = grind (arith, nat_tests)

pub by_nobody : (o : Option Held) (consumer : ℕ) → option_map (λ (h : Held). h.consumer) o ≡ None → is_held_by consumer o ≡ false
by_nobody None consumer none = refl
by_nobody (Some h) consumer none = cc

pub by_holder : (o : Option Held) (consumer holder : ℕ) → option_map (λ (h : Held). h.consumer) o ≡ Some holder → holder ≡ consumer → is_held_by consumer o ≡ true
by_holder None consumer holder some same = cc
by_holder (Some h) consumer holder some same = (let is : h.consumer ≡ holder = cc (some) in same_number h.consumer consumer (is ∙ same))

pub by_other : (o : Option Held) (consumer holder : ℕ) → option_map (λ (h : Held). h.consumer) o ≡ Some holder → (holder ≡ consumer → ⊥) → is_held_by consumer o ≡ false
by_other None consumer holder some differ = cc
by_other (Some h) consumer holder some differ = (let is : h.consumer ≡ holder = cc (some) in other_number h.consumer consumer (λ e. differ (sym is ∙ e)))

pub nacked : (s t : State) (consumer : ℕ) (q : Position) (now : ℕ) (m : Member) → find (is_member consumer) s.members ≡ Some m → is_held_at s m.subscription consumer q ≡ true
    → t ≡ record s { subscriptions = changed (is_named m.subscription) (holding q (record { consumer = consumer; due = Some (now + m.nack_delay) })) s.subscriptions }
    → Answers s (Nack consumer q now) Done t
nacked s t consumer q now m there held is = (allowed, (refl, taken))
  where
    allowed : nacking_refused s consumer q (find (is_member consumer) s.members) ≡ None
    allowed = ap (nacking_refused s consumer q) there ∙ ap (λ (b : Bool). if b then None else Some NotPending) held

    taken : IsSomeAnd (find (is_member consumer) s.members) (λ x. t ≡ record s { subscriptions = changed (is_named x.subscription) (holding q (record { consumer = consumer; due = Some (now + x.nack_delay) })) s.subscriptions })
    taken = subst (λ (o : Option Member). IsSomeAnd o (λ x. t ≡ record s { subscriptions = changed (is_named x.subscription) (holding q (record { consumer = consumer; due = Some (now + x.nack_delay) })) s.subscriptions })) (sym there) is

-- who holds it
pub held_some : (o : Option Held) (consumer : ℕ) → is_held_by consumer o ≡ true → (h : Held) × (o ≡ Some h) × (consumer ≡ h.consumer)
held_some None consumer none = cc
held_some (Some h) consumer same = (h, refl, number_of h.consumer consumer same)
  where
    number_of : (a b : ℕ) → (a == b) ≡ true → b ≡ a
    number_of a b is = grind (arith, nat_tests)
