-- A message that was offered is sent, or stays as it was.
use Rattle.std.proofs.Common.{◌≡◌, ℕ, suc, ◌+◌, List, [], ◌∷◌, length, Some, None, Option, Bool, true, false, cond, refl, ap, ap₂, ◌∙◌, sym, subst, true≢false}
use Rattle.std.specs.Prelude.{slice_get, is_some, not, nat_lt}
use Rattle.std.specs.List.{find, position, position_or_len}
use Rattle.std.specs.FinMap as map_of
use Rattle.std.proofs.lemmas.Option.{slice_get_within, get_or_from_slice_get}
use Rattle.position_core.specs.declared.position.Position.{Position}
use Rattle.position_core.specs.declared.message.Entry.{Entry}
use Rattle.position_core.specs.declared.held.Held.{Held}
use Rattle.delivery_machine.specs.State.{State, Subscription}
use Rattle.delivery_machine.specs.Words.{changed, count_of, is_live, is_member, is_named, is_waiting}
use Rattle.delivery_machine.specs.Delivering.{due_after, holding, sent}
use Rattle.delivery_machine.specs.Run.{Answers}
use Rattle.delivery_machine.specs.declared.delivery.Delivery.{Delivery}
use Rattle.delivery_machine.specs.declared.event.Event.TheVariants.{Dispatch}
use Rattle.delivery_machine.specs.declared.reply.Reply.TheVariants.{Sent}
use Rattle.delivery_machine.specs.WellFormed.{IsWellFormed}
use Rattle.machine_laws.proofs.Chosen.{chosen_member}
use Rattle.machine_laws.proofs.WellSeated.{found_by_number}
use Rattle.delivery_machine.proofs.Deciding.{and_first, and_second}
use Rattle.dispatch_core.specs.Offers.{IsGoodOffer}
use Rattle.dispatch_core.specs.declared.dispatcher.Offer.{Offer}
use Rattle.topic_served.proofs.Offered.{offered_there, offered_waits}
use Rattle.topic_subscriptions.specs.Placed.{IsPlacedIn, Placed, is_live_at, is_placed, sub_in}
use Rattle.topic_parts.specs.Parts.{AreTied, log_of, state_of}
use Rattle.topic_parts.specs.declared.parts.Parts.{Parts}
use Rattle.topic_parts.proofs.Mapped.{position_mapped}
use Rattle.topic_served.proofs.Telling.{at_place, named_place}
use Rattle.delivery_events.specs.Handing.{handed, paid, taken_back}
use Rattle.delivery_events.proofs.Handing.{handed_back}
use Rattle.delivery_events.proofs.Named.{at_some, present}

-- ---- what is offered is live, and pending nowhere

pub live_offered : (t : Parts) (place : ℕ) (p : Placed) (offer : Offer) → AreTied t → slice_get t.subscriptions.items place ≡ Some p → IsGoodOffer (state_of t) (sub_in (log_of t) p) offer → is_live_at p offer.index ≡ true
live_offered t place p offer tied at good =
    let s = state_of t in
    let sub = sub_in (log_of t) p in
    let placed = subst (λ (y : Placed). IsPlacedIn (log_of t) t.members.members y) (get_or_from_slice_get t.subscriptions.items place p p at) (tied place p (slice_get_within t.subscriptions.items place p at)) in
    sym (placed.live offer.index good.message (offered_there s sub offer good)) ∙ and_first (is_live sub good.message) (not (map_of.contains_key sub.pending good.message.position)) (offered_waits s sub offer good)

pub not_pending : (s : State) (sub : Subscription) (e : Entry) → is_waiting sub e ≡ true → map_of.get sub.pending e.position ≡ None
not_pending s sub e waits = none_of (map_of.get sub.pending e.position) (and_second (is_live sub e) (not (map_of.contains_key sub.pending e.position)) waits)
  where
    none_of : (o : Option Held) → not (is_some o) ≡ true → o ≡ None
    none_of None is = refl
    none_of (Some h) is = absurd (true≢false (sym is))

pub message_is : (a b : Entry) (o : Option Entry) → o ≡ Some a → o ≡ Some b → a ≡ b
message_is a b o is_a is_b = some_is (sym is_a ∙ is_b)
  where
    some_is : ◌≡◌ {A = Option Entry} (Some a) (Some b) → a ≡ b
    some_is is = cc

-- ---- the subscription keeps its place

first_changed : {A : Type 0} (p : A → Bool) (f : A → A) (xs : List A) → ((x : A) → p (f x) ≡ p x) → position_or_len p (changed p f xs) ≡ position_or_len p xs
first_changed p f [] keeps = refl
first_changed {A} p f (x ∷ xs) keeps = by (p x) refl (first_changed p f xs keeps)
  where
    by : (b : Bool) → p x ≡ b → position_or_len p (changed p f xs) ≡ position_or_len p xs → position_or_len p (cond b (f x ∷ xs) (x ∷ changed p f xs)) ≡ cond (not b) (1 + position_or_len p xs) 0
    by true passes rest = ap (λ b. cond (not b) (1 + position_or_len p xs) 0) (keeps x ∙ passes)
    by false fails rest = ap₂ (λ b n. cond (not b) (1 + n) 0) fails rest

length_changed : {A : Type 0} (p : A → Bool) (f : A → A) (xs : List A) → length (changed p f xs) ≡ length xs
length_changed p f [] = refl
length_changed p f (x ∷ xs) = by (p x) (length_changed p f xs)
  where
    by : (b : Bool) → length (changed p f xs) ≡ length xs → length (cond b (f x ∷ xs) (x ∷ changed p f xs)) ≡ length (x ∷ xs)
    by true rest = refl
    by false rest = ap suc rest

position_changed : {A : Type 0} (p : A → Bool) (f : A → A) (xs : List A) → ((x : A) → p (f x) ≡ p x) → position p (changed p f xs) ≡ position p xs
position_changed p f xs keeps = ap₂ (λ i n. cond (nat_lt i n) (Some i) None) (first_changed p f xs keeps) (length_changed p f xs)

stays : (old new : Parts) (name : List ℕ) (place : ℕ) (d : Delivery) (held : Held) → state_of new ≡ handed (state_of old) name d held → Some place ≡ position (is_placed name) old.subscriptions.items → Some place ≡ position (is_placed name) new.subscriptions.items
stays old new name place d held is there =
    there
    ∙ sym (position_mapped (sub_in (log_of old)) (is_placed name) (is_named name) (λ _. refl) old.subscriptions.items)
    ∙ sym (position_changed (is_named name) (holding d.message.position held) (state_of old).subscriptions (λ _. refl))
    ∙ sym (ap (λ (s : State). position (is_named name) s.subscriptions) is)
    ∙ position_mapped (sub_in (log_of new)) (is_placed name) (is_named name) (λ _. refl) new.subscriptions.items

pub undone : (t u v : Parts) (name : List ℕ) (place : ℕ) (x : Placed) (d : Delivery) (held : Held) (q : Position) → Some place ≡ position (is_placed name) t.subscriptions.items → Some x ≡ slice_get t.subscriptions.items place
    → map_of.get x.pending.pending d.message.position ≡ None → q ≡ d.message.position → state_of u ≡ handed (state_of t) name d held
    → (Some place ≡ position (is_placed name) u.subscriptions.items → state_of v ≡ taken_back (state_of u) name q held.consumer) → state_of v ≡ state_of t
undone t u v name place x d held q there at none same is back =
    back (stays t u name place d held is there)
    ∙ ap₂ (λ (s : State) (p : Position). taken_back s name p held.consumer) is same
    ∙ handed_back (state_of t) name place (sub_in (log_of t) x) d held (named_place t name place there) (at_place t place x at) none

-- ---- as the machine sends it

pub member_found : (s : State) (sub : Subscription) (offer : Offer) → IsWellFormed s → (good : IsGoodOffer s sub offer) → find (is_member offer.consumer) s.members ≡ Some good.member
member_found s sub offer well good =
    ap (λ (n : ℕ). find (is_member n) s.members) (sym good.number)
    ∙ found_by_number s.next_consumer s.members good.member well.members (chosen_member sub.kind s sub good.message good.member good.eligible.1).0

abbrev delivery : Entry → ℕ → Delivery
delivery e n = record { message = e; count = n }

abbrev holder : ℕ → Option ℕ → Held
holder n due = record { consumer = n; due = due }

pub sent_answers : (s t : State) (name : List ℕ) (now : ℕ) (sub : Subscription) (offer : Offer) (d : Delivery) (held : Held) (q : Position) → find (is_named name) s.subscriptions ≡ Some sub → (good : IsGoodOffer s sub offer)
    → d.message ≡ good.message → d.count ≡ count_of sub d.message.position → held.consumer ≡ offer.consumer → held.due ≡ due_after now good.member.ack_timeout → q ≡ d.message.position → t ≡ paid s name d held
    → Answers s (Dispatch name now) (Sent offer.consumer q d.count) t
sent_answers s t name now sub offer d held q there good is_message is_count is_holder is_due is_position is = (
  present s name sub there,
  at_some (find (is_named name) s.subscriptions) sub _ there
      (good.message, good.member, good.eligible, sym good.number, is_position ∙ ap (λ (e : Entry). e.position) is_message, counted, is ∙ is_sent),
)
  where
    counted : d.count ≡ count_of sub good.message.position
    counted = is_count ∙ ap (λ (e : Entry). count_of sub e.position) is_message

    d_is : d ≡ delivery good.message (count_of sub good.message.position)
    d_is = ap₂ delivery is_message counted

    h_is : held ≡ holder good.member.number (due_after now good.member.ack_timeout)
    h_is = ap₂ holder (is_holder ∙ sym good.number) is_due

    is_sent : paid s name d held ≡ sent s name sub good.message good.member now
    is_sent = ap₂ (λ (x : Delivery) (h : Held). paid s name x h) d_is h_is
