-- A message that was offered waits and may be seen, so that it may be sent.
use Rattle.std.proofs.Common.{◌≡◌, ℕ, zero, suc, List, [], ◌∷◌, Some, true, take, subst}
use Rattle.std.specs.Prelude.{slice_get}
use Rattle.std.specs.List.{position}
use Rattle.std.proofs.lemmas.Option.{slice_get_within}
use Rattle.position_core.specs.declared.kind.Kind.{Kind}
use Rattle.position_core.specs.declared.kind.Kind.TheVariants.{Exclusive, Failover, Shared, KeyShared}
use Rattle.position_core.specs.declared.message.Entry.{Entry}
use Rattle.log_pieces.proofs.Searching.{IsRising}
use Rattle.delivery_machine.specs.State.{State, Subscription, Member}
use Rattle.delivery_machine.specs.Words.{is_named, is_waiting, waits_with_hash, hash_of, visible, ChoosesBy}
use Rattle.delivery_machine.specs.Delivering.{holding, sent, due_after}
use Rattle.delivery_machine.proofs.Deciding.{and_first}
use Rattle.delivery_machine.proofs.Firsts.{found_passes}
use Rattle.dispatch_core.specs.Changes.{Sent}
use Rattle.dispatch_core.specs.Offers.{IsGoodOffer}
use Rattle.dispatch_core.specs.declared.dispatcher.Offer.{Offer}
use Rattle.topic_served.specs.Happening.{HappensAt}
use Rattle.topic_served.proofs.Released.{sent_to}
use Rattle.topic_served.proofs.Standing.{index_there}

chosen_waits : (kind : Kind) (s : State) (sub : Subscription) (e : Entry) (m : Member) → ChoosesBy kind s sub e m → is_waiting sub e ≡ true
chosen_waits Exclusive s sub e m chosen = found_passes (is_waiting sub) (visible s) e chosen.0
chosen_waits Failover s sub e m chosen = found_passes (is_waiting sub) (visible s) e chosen.0
chosen_waits Shared s sub e m chosen = found_passes (is_waiting sub) (visible s) e chosen.0
chosen_waits KeyShared s sub e m chosen = and_first (is_waiting sub e) _ (found_passes (waits_with_hash sub (hash_of e)) (visible s) e chosen.0)

taken_there : {A : Type 0} (n : ℕ) (xs : List A) (k : ℕ) (x : A) → slice_get (take n xs) k ≡ Some x → slice_get xs k ≡ Some x
taken_there zero xs k x at = cc
taken_there (suc n) [] k x at = at
taken_there (suc n) (y ∷ xs) zero x at = at
taken_there (suc n) (y ∷ xs) (suc k) x at = taken_there n xs k x at

module _ (s : State) (sub : Subscription) (offer : Offer) (good : IsGoodOffer s sub offer) where
  pub offered_there : slice_get s.log offer.index ≡ Some good.message
  offered_there = taken_there s.durable s.log offer.index good.message good.found

  pub offered_waits : is_waiting sub good.message ≡ true
  offered_waits = chosen_waits sub.kind s sub good.message good.member good.eligible.1

  -- the machine's dispatch of it, as the subscription sees it
  pub sent_offered : (name : List ℕ) (i : ℕ) (now : ℕ) → IsRising s.log → position (is_named name) s.subscriptions ≡ Some i → slice_get s.subscriptions i ≡ Some sub
      → HappensAt i (Sent offer.index offer.consumer) s sub (sent s name sub good.message good.member now) (holding good.message.position (record { consumer = good.member.number; due = due_after now good.member.ack_timeout }) sub)
  sent_offered name i now rising place was =
      subst (λ (n : ℕ). HappensAt i (Sent offer.index n) s sub (sent s name sub good.message good.member now) (holding good.message.position (record { consumer = good.member.number; due = due_after now good.member.ack_timeout }) sub)) good.number
      (sent_to s name i sub good.message offer.index good.member now
      (record { rising = rising; place = place; was = was; stands = index_there s.log offer.index good.message rising offered_there })
      (slice_get_within (visible s) offer.index good.message good.found) offered_waits)
