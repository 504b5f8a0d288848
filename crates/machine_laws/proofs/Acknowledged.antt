-- What is acknowledged in a subscription stays so at each step, or goes from the log for ever, but where the subscription is sought or dropped, and is not sent.
use Rattle.std.proofs.Common.{◌≡◌, ℕ, List, [], ◌∷◌, take, Contains, ◌⊎◌, Some, None, Option, Bool, true, false, refl, ap, ◌∙◌, sym, subst, inl, inr, true≢false}
use Rattle.std.specs.Prelude.{◌&&◌, ◌||◌, not, is_some, if◌then◌else◌}
use Rattle.std.specs.List.{find}
use Rattle.std.specs.Option.{option_map_or}
use Rattle.std.specs.Str.{bytes_eq}
use Rattle.std.specs.FinSet as set
use Rattle.position_core.specs.declared.position.Position.{Position}
use Rattle.position_core.specs.declared.message.Entry.{Entry}
use Rattle.position_core.specs.declared.kind.Kind.{Kind}
use Rattle.position_core.specs.declared.kind.Kind.TheVariants.{Exclusive, Failover, Shared, KeyShared}
use Rattle.position_core.specs.Position.{position_cmp, same_position, positions_total}
use Rattle.position_core.specs.declared.ranges.HashRange.{HashRange}
use Rattle.delivery_machine.specs.State.{State, Subscription, Member}
use Rattle.delivery_machine.specs.Words.{changed, is_named, is_member, is_producer, is_dead, is_live, is_waiting, waits_with_hash, hash_of, visible, active_at, has_position, used_after, ChoosesBy}
use Rattle.delivery_machine.specs.Refusals.{is_duplicate}
use Rattle.delivery_machine.specs.Producing.{storing, storing_below, with_message, message_of}
use Rattle.delivery_machine.specs.Joining.{releasing_all, all_released, is_taken_over, taken_over, joining, joined, leaving, without_member, placed, new_subscription, with_member}
use Rattle.delivery_machine.specs.Acknowledging.{is_one_of, acknowledging, Acks, positions_up_to}
use Rattle.delivery_machine.specs.Delivering.{holding, Dispatches}
use Rattle.delivery_machine.specs.Ticking.{redelivering, Ticks, pending_positions}
use Rattle.delivery_machine.specs.Seeking.{seeking, first_live}
use Rattle.delivery_machine.specs.Dying.{burying, moving, dying_at, first_safe, letter_of}
use Rattle.delivery_machine.specs.Trimming.{without_messages, trimmed, Trims}
use Rattle.delivery_machine.specs.Run.{Run, Answers, Takes}
use Rattle.delivery_machine.specs.Laws.{is_reset, is_sent_at, some_answer}
use Rattle.delivery_machine.specs.declared.event.Initial.{Initial}
use Rattle.delivery_machine.specs.declared.event.Event.{Event}
use Rattle.delivery_machine.specs.declared.event.Event.TheVariants.{AddProducer, DropProducer, Publish, Stored, StoredTo, Progress, Subscribe, Leave, Permit, Ack, AckUpTo, Nack, Tick, Seek, SeekTime, Skip, DropSubscription, Stats, Trim, SetRetention, Dispatch, Collect, DeadNext, DeadDone}
use Rattle.delivery_machine.specs.declared.reply.Reply.{Reply}
use Rattle.delivery_machine.specs.declared.reply.Reply.TheVariants.{Sent, Idle, Quiet, Rewound, Released, Died, Trimmed, Untrimmed}
use Rattle.delivery_machine.proofs.RunSteps.{split}
use Rattle.delivery_machine.proofs.Rising.{IsRising, is_below, used_dropped}
use Rattle.delivery_machine.proofs.Kept.{IsKept}
use Rattle.machine_laws.proofs.ReachedKept.{step_keeps}
use Rattle.delivery_machine.proofs.Trimmed.{IsGoing, are_going, positions_gone, others_stay, acknowledged_stays}
use Rattle.machine_laws.proofs.Past.{IsPast, went, step_past}
use Rattle.delivery_machine.proofs.Messages.{message_there, one_listed}
use Rattle.delivery_machine.proofs.Sending.{taken_contained}
use Rattle.std.proofs.lemmas.List.Elements.{All-contains}
use Rattle.delivery_machine.proofs.Firsts.{some_elim, found_passes, found_contained, none_contained}
use Rattle.delivery_machine.proofs.Deciding.{and_first, or_false, both_false}
use Rattle.delivery_machine.proofs.Finding.{find_inserted, find_removed, still_changed, still_mapped}
use Rattle.delivery_machine.proofs.Behind.{same_name, is_same_name}
use Rattle.delivery_machine.proofs.Tended.{position_is}

-- ---- one subscription and one message

module _ (name : List ℕ) (position : Position) where
  abbrev has : Subscription → Bool
  has sub = set.contains sub.acknowledged position

  abbrev stands : List Subscription → Type 0
  stands subs = option_map_or has (find (is_named name) subs) false ≡ true

  -- a subscription of another name is not the one
  apart : (other : List ℕ) → bytes_eq other name ≡ false → (sub : Subscription) → is_named other sub ≡ true → is_named name sub ≡ false
  apart other differ sub t = by (is_named name sub) refl
    where
      by : (b : Bool) → is_named name sub ≡ b → b ≡ false
      by false f = refl
      by true u = sym (is_same_name other name (sym (same_name sub.name other t) ∙ same_name sub.name name u)) ∙ differ

  -- any change that keeps the name, and takes nothing from what is acknowledged
  stands_changed : (n : List ℕ) (f : Subscription → Subscription) → ((sub : Subscription) → (f sub).name ≡ sub.name) → ((sub : Subscription) → has sub ≡ true → has (f sub) ≡ true)
      → (subs : List Subscription) → stands subs → stands (changed (is_named n) f subs)
  stands_changed n f same grows subs there =
      still_changed (is_named name) has (is_named n) f (λ sub. ap (λ (m : List ℕ). bytes_eq m name) (same sub)) (λ sub _ _. grows sub) subs there

  -- a change of another subscription
  stands_beside : (n : List ℕ) (f : Subscription → Subscription) → ((sub : Subscription) → (f sub).name ≡ sub.name) → bytes_eq n name ≡ false
      → (subs : List Subscription) → stands subs → stands (changed (is_named n) f subs)
  stands_beside n f same differ subs there =
      still_changed (is_named name) has (is_named n) f (λ sub. ap (λ (m : List ℕ). bytes_eq m name) (same sub))
      (λ sub other this _. absurd (true≢false (sym this ∙ apart n differ sub other))) subs there

  grown : (sub : Subscription) (positions : List Position) → has sub ≡ true → has (acknowledging positions sub) ≡ true
  grown sub positions t =
      set.contains-union positions_total sub.acknowledged (set.from_list positions) position
      ∙ ap (λ b. b || set.contains {R = position_cmp} (set.from_list positions) position) t

  stands_acknowledged : (n : List ℕ) (positions : List Position) (subs : List Subscription) → stands subs → stands (changed (is_named n) (acknowledging positions) subs)
  stands_acknowledged n positions = stands_changed n (acknowledging positions) (λ _. refl) (λ sub. grown sub positions)

  stands_taken_over : (n : List ℕ) (before : Option ℕ) (s : State) → stands s.subscriptions → stands (taken_over n before s).subscriptions
  stands_taken_over n before s there = by (is_taken_over n before s)
    where
      by : (b : Bool) → stands (if b then all_released n s else s).subscriptions
      by true = stands_changed n releasing_all (λ _. refl) (λ _ t. t) s.subscriptions there
      by false = there

  stands_joined : (s : State) (n : List ℕ) (kind : Kind) (ranges : Option (List HashRange)) (consumer : ℕ) (initial : Initial) → stands s.subscriptions → stands (joined s n kind ranges consumer initial)
  stands_joined s n kind ranges consumer initial there = by (find (is_named n) s.subscriptions) refl
    where
      new : Subscription
      new = new_subscription n kind ranges consumer initial s.log

      beside : (b : Bool) → bytes_eq n name ≡ b → find (is_named n) s.subscriptions ≡ None → is_named name new ≡ false
      beside true t none =
          let lost : find (is_named name) s.subscriptions ≡ None = subst (λ (m : List ℕ). find (is_named m) s.subscriptions ≡ None) (same_name n name t) none in
          absurd (true≢false (sym there ∙ ap (λ o. option_map_or has o false) lost))
      beside false f none = f

      by : (o : Option Subscription) → find (is_named n) s.subscriptions ≡ o → stands (if is_some o then changed (is_named n) (joining kind ranges consumer) s.subscriptions else placed new s.subscriptions)
      by (Some sub) found = stands_changed n (joining kind ranges consumer) (λ _. refl) (λ _ t. t) s.subscriptions there
      by None none = ap (λ o. option_map_or has o false) (find_inserted (is_named name) s.subscriptions _ new (beside (bytes_eq n name) refl none)) ∙ there

  -- ---- each step

  abbrev stands_at : State → Type 0
  stands_at s = stands s.subscriptions

  settled : (t u : State) → t ≡ u → stands_at u → stands_at t
  settled t u is there = subst stands_at (sym is) there

  publish_stands : (s : State) (e : Entry) (t : State) (duplicate : Bool) → t ≡ (if duplicate then s else with_message s e) → stands_at s → stands_at t
  publish_stands s e t true is there = settled t s is there
  publish_stands s e t false is there = settled t (with_message s e) is there

  acks_stands : (s : State) (consumer : ℕ) (positions : List Position) (reply : Reply) (t : State) → Acks s consumer positions reply t → stands_at s → stands_at t
  acks_stands s consumer positions reply t h there =
      some_elim (find (is_member consumer) s.members) _ (stands_at t) h.1 (λ m found is. settled t _ is (stands_acknowledged m.subscription positions s.subscriptions there))

  tick_stands : (s : State) (n : List ℕ) (now : ℕ) (sub : Subscription) (reply : Reply) (t : State) → Ticks s n now sub reply t → stands_at s → stands_at t
  tick_stands s n now sub Quiet t h there = settled t s h.1 there
  tick_stands s n now sub (Rewound count) t h there =
      settled t _ h.3 (stands_changed n (redelivering (pending_positions s sub)) (λ _. refl) (λ _ t. t) s.subscriptions there)
  tick_stands s n now sub (Released p) t h there = settled t _ h.3 (stands_changed n (redelivering (p ∷ [])) (λ _. refl) (λ _ t. t) s.subscriptions there)
  tick_stands s n now sub (Died p ordinal) t h there =
      some_elim (dying_at s sub p) _ (stands_at t) h.3 (λ m found is. settled t _ is (stands_changed n (burying (letter_of s p m)) (λ _. refl) (λ _ t. t) s.subscriptions there))
  tick_stands s n now sub reply t h there = absurd h

  dispatch_stands : (s : State) (n : List ℕ) (now : ℕ) (sub : Subscription) (reply : Reply) (t : State) → Dispatches s n now sub reply t → stands_at s → stands_at t
  dispatch_stands s n now sub (Sent consumer p count) t h there = settled t _ h.6 (stands_changed n (holding h.0.position _) (λ _. refl) (λ _ t. t) s.subscriptions there)
  dispatch_stands s n now sub Idle t h there = settled t s h.1 there
  dispatch_stands s n now sub reply t h there = absurd h

  -- a trim takes the message from the log, or leaves it acknowledged
  abbrev StandsAfter : Event → State → Type 0
  StandsAfter (Trim keep before most) t = stands_at t ⊎ IsPast position t
  StandsAfter event t = stands_at t

  stands_trimmed : (s : State) (n : ℕ) → IsGoing s n → IsRising s.log s.ledger → stands_at s → stands_at (trimmed n s) ⊎ IsPast position (trimmed n s)
  stands_trimmed s n are rising there = by (is_one_of (positions_gone n s.log) position) refl
    where
      by : (b : Bool) → is_one_of (positions_gone n s.log) position ≡ b → stands_at (trimmed n s) ⊎ IsPast position (trimmed n s)
      by true one =
          let at = message_there s.log position (one_listed (take n s.log) s.log position (λ e at. taken_contained n s.log e at) one) in
          let low = All-contains (λ (e : Entry). is_below s.ledger (used_after s.ledger s.log) e.position ≡ true) s.log at.0 rising.below at.1 in
          inr (
            went position n s.log (others_stay n s.log rising.sorted) one,
            subst (λ (used : ℕ). is_below s.ledger used position ≡ true) (sym (used_dropped s.ledger n s.log are.within))
                (subst (λ (p : Position). is_below s.ledger (used_after s.ledger s.log) p ≡ true) at.2 low),
          )
      by false other = inl (still_mapped (is_named name) has (without_messages (positions_gone n s.log)) (λ _. refl) (λ sub. acknowledged_stays (positions_gone n s.log) sub position other) s.subscriptions ∙ there)

  trims_stand : (s : State) (keep before most : ℕ) (reply : Reply) (t : State) → Trims s keep before most reply t → IsRising s.log s.ledger → stands_at s → stands_at t ⊎ IsPast position t
  trims_stand s keep before most (Trimmed gone) t h rising there = subst (λ (u : State). stands_at u ⊎ IsPast position u) (sym h.2) (stands_trimmed s _ (are_going s keep before most h.0) rising there)
  trims_stand s keep before most Untrimmed t h rising there = inl (settled t s h.1 there)
  trims_stand s keep before most reply t h rising there = absurd h

  takes_stands : (s : State) (event : Event) (reply : Reply) (t : State) → Takes s event reply t → is_reset name event reply ≡ false → IsRising s.log s.ledger → stands_at s → StandsAfter event t
  takes_stands s (AddProducer n base) reply t h r rising there = settled t _ h.3.1 there
  takes_stands s (DropProducer producer) reply t h r rising there = settled t _ h.1 there
  takes_stands s (Publish producer sequence body now) reply t h r rising there =
      some_elim (find (is_producer producer) s.producers) _ (stands_at t) h (λ p found h. publish_stands s (message_of s p sequence body now) t (is_duplicate s p sequence) h.1 there)
  takes_stands s Stored reply t h r rising there =
      settled t _ h.1 (still_mapped (is_named name) has storing (λ _. refl) (λ _. refl) s.subscriptions ∙ there)
  takes_stands s (StoredTo count ordinal) reply t h r rising there =
      settled t _ h.1 (still_mapped (is_named name) has (storing_below ordinal) (λ _. refl) (λ _. refl) s.subscriptions ∙ there)
  takes_stands s Progress reply t h r rising there = settled t s h.1 there
  takes_stands s (Subscribe n kind level flow ack_timeout nack_delay max_redeliver dead_topic initial ranges) reply t h r rising there =
      settled t _ h.1 (stands_taken_over n (active_at s n) (with_member s kind ranges initial _) (stands_joined s n kind ranges s.next_consumer initial there))
  takes_stands s (Leave consumer) reply t h r rising there =
      some_elim (find (is_member consumer) s.members) _ (stands_at t) h.1 (λ m found is.
      settled t _ is (stands_taken_over m.subscription (active_at s m.subscription) (without_member s consumer m.subscription)
      (stands_changed m.subscription (leaving consumer) (λ _. refl) (λ _ t. t) s.subscriptions there)))
  takes_stands s (Permit consumer permits) reply t h r rising there = settled t _ h.1 there
  takes_stands s (Ack consumer p) reply t h r rising there = acks_stands s consumer (p ∷ []) reply t h there
  takes_stands s (AckUpTo consumer p) reply t h r rising there = acks_stands s consumer (positions_up_to p s.log) reply t h there
  takes_stands s (Nack consumer p now) reply t h r rising there =
      some_elim (find (is_member consumer) s.members) _ (stands_at t) h.1 (λ m found is.
      settled t _ is (stands_changed m.subscription (holding p _) (λ _. refl) (λ _ t. t) s.subscriptions there))
  takes_stands s (Tick n now) reply t h r rising there = some_elim (find (is_named n) s.subscriptions) _ (stands_at t) h (λ sub found h. tick_stands s n now sub reply t h there)
  takes_stands s (Seek n target) reply t h r rising there =
      settled t _ h.1 (stands_beside n (seeking _) (λ _. refl) (ap (is_reset name (Seek n target)) (sym h.0) ∙ r) s.subscriptions there)
  takes_stands s (SeekTime n time) reply t h r rising there =
      settled t _ h.1 (stands_beside n (seeking _) (λ _. refl) (ap (is_reset name (SeekTime n time)) (sym h.0) ∙ r) s.subscriptions there)
  takes_stands s (Skip n count) reply t h r rising there =
      some_elim (find (is_named n) s.subscriptions) _ (stands_at t) h (λ sub found h. settled t _ h.1 (stands_acknowledged n (first_live s sub count) s.subscriptions there))
  takes_stands s (DropSubscription n) reply t h r rising there =
      settled t _ h.1 (ap (λ o. option_map_or has o false) (find_removed (is_named name) (is_named n) (apart n (ap (is_reset name (DropSubscription n)) (sym h.0) ∙ r)) s.subscriptions) ∙ there)
  takes_stands s (Stats n) reply t h r rising there = some_elim (find (is_named n) s.subscriptions) _ (stands_at t) h (λ sub found h. settled t s h.1 there)
  takes_stands s (Trim keep before most) reply t h r rising there = trims_stand s keep before most reply t h rising there
  takes_stands s (SetRetention retention) reply t h r rising there = settled t _ h.1 there
  takes_stands s (Dispatch n now) reply t h r rising there = some_elim (find (is_named n) s.subscriptions) _ (stands_at t) h (λ sub found h. dispatch_stands s n now sub reply t h there)
  takes_stands s (Collect consumer) reply t h r rising there = settled t _ h.1 there
  takes_stands s (DeadNext n) reply t h r rising there = some_elim (find (is_named n) s.subscriptions) _ (stands_at t) h (λ sub found h. settled t s h.1 there)
  takes_stands s (DeadDone n ordinal) reply t h r rising there =
      some_elim (find (is_named n) s.subscriptions) _ (stands_at t) h (λ sub found h.
      some_elim (first_safe sub) _ (stands_at t) h.1 (λ d first is.
      settled t _ is (stands_changed n (moving d) (λ _. refl) (λ sub. grown sub (d.position ∷ [])) s.subscriptions there)))

  stands_after : (event : Event) (t : State) → StandsAfter event t → stands_at t ⊎ IsPast position t
  stands_after (Trim keep before most) t after = after
  stands_after event t after = inl after

  pub step_stays : (s : State) (event : Event) (reply : Reply) (t : State) → Answers s event reply t → is_reset name event reply ≡ false → IsRising s.log s.ledger → stands_at s ⊎ IsPast position s → stands_at t ⊎ IsPast position t
  step_stays s event reply t h r rising was = elim was [
    | inl there ↦ elim (split s event reply t h) [
      | inl is ↦ inl (settled t s is there)
      | inr taken ↦ stands_after event t (takes_stands s event reply t taken.1 r rising there)
    ]
    | inr past ↦ inr (step_past position s event reply t h rising past)
  ]

  -- ---- what is sent

  chosen_waits : (kind : Kind) (s : State) (sub : Subscription) (e : Entry) (m : Member) → ChoosesBy kind s sub e m → is_waiting sub e ≡ true
  chosen_waits Exclusive s sub e m h = found_passes (is_waiting sub) (visible s) e h.0
  chosen_waits Failover s sub e m h = found_passes (is_waiting sub) (visible s) e h.0
  chosen_waits Shared s sub e m h = found_passes (is_waiting sub) (visible s) e h.0
  chosen_waits KeyShared s sub e m h = and_first (is_waiting sub e) _ (found_passes (waits_with_hash sub (hash_of e)) (visible s) e h.0)

  -- what waits is not acknowledged
  waits_unacknowledged : (sub : Subscription) (e : Entry) → is_waiting sub e ≡ true → set.contains sub.acknowledged e.position ≡ true → ⊥
  waits_unacknowledged sub e waits acknowledged =
      let live : is_live sub e ≡ true = and_first (is_live sub e) _ waits in
      let is_not : not (set.contains sub.acknowledged e.position) ≡ true = and_first _ (not (is_dead sub e.position)) live in
      true≢false (sym is_not ∙ ap not acknowledged)

  sends_other : (s : State) (n : List ℕ) (now : ℕ) (sub : Subscription) (consumer : ℕ) (p : Position) (count : ℕ) (t : State) → find (is_named n) s.subscriptions ≡ Some sub
      → Dispatches s n now sub (Sent consumer p count) t → stands_at s → (bytes_eq n name && same_position p position) ≡ false
  sends_other s n now sub consumer p count t found h there = by (bytes_eq n name) refl (same_position p position) refl
    where
      by : (b : Bool) → bytes_eq n name ≡ b → (c : Bool) → same_position p position ≡ c → (b && c) ≡ false
      by true named true same =
          let this : find (is_named name) s.subscriptions ≡ Some sub = subst (λ (m : List ℕ). find (is_named m) s.subscriptions ≡ Some sub) (same_name n name named) found in
          let is : position ≡ h.0.position = sym (position_is p position same) ∙ h.4 in
          let acknowledged : set.contains sub.acknowledged position ≡ true = sym (ap (λ o. option_map_or has o false) this) ∙ there in
          absurd (waits_unacknowledged sub h.0 (chosen_waits sub.kind s sub h.0 h.1 h.2.1) (ap (set.contains sub.acknowledged) (sym is) ∙ acknowledged))
      by true named false differs = refl
      by false other c e = refl

  -- what is sent is in the log
  chosen_logged : (kind : Kind) (s : State) (sub : Subscription) (e : Entry) (m : Member) → ChoosesBy kind s sub e m → Contains s.log e
  chosen_logged Exclusive s sub e m h = taken_contained s.durable s.log e (found_contained (is_waiting sub) (visible s) e h.0)
  chosen_logged Failover s sub e m h = taken_contained s.durable s.log e (found_contained (is_waiting sub) (visible s) e h.0)
  chosen_logged Shared s sub e m h = taken_contained s.durable s.log e (found_contained (is_waiting sub) (visible s) e h.0)
  chosen_logged KeyShared s sub e m h = taken_contained s.durable s.log e (found_contained (waits_with_hash sub (hash_of e)) (visible s) e h.0)

  sends_unpast : (s : State) (n : List ℕ) (now : ℕ) (sub : Subscription) (consumer : ℕ) (p : Position) (count : ℕ) (t : State) → Dispatches s n now sub (Sent consumer p count) t → IsPast position s → (bytes_eq n name && same_position p position) ≡ false
  sends_unpast s n now sub consumer p count t h past = second (bytes_eq n name) (same_position p position)
      (ap (λ (q : Position). same_position q position) h.4 ∙ none_contained (has_position position) s.log h.0 past.0 (chosen_logged sub.kind s sub h.0 h.1 h.2.1))
    where
      second : (b c : Bool) → c ≡ false → (b && c) ≡ false
      second true c e = e
      second false c e = refl

  pub step_sends_other : (s : State) (event : Event) (reply : Reply) (t : State) → Answers s event reply t → stands_at s ⊎ IsPast position s → is_sent_at name position event reply ≡ false
  step_sends_other s (Dispatch n now) (Sent consumer p count) t h was =
      some_elim (find (is_named n) s.subscriptions) _ (is_sent_at name position (Dispatch n now) (Sent consumer p count) ≡ false) h.1 (λ sub found d. elim was [
        | inl there ↦ sends_other s n now sub consumer p count t found d there
        | inr past ↦ sends_unpast s n now sub consumer p count t d past
      ])
  step_sends_other s event reply t h was = refl

  -- ---- the run

  pub never_sent : (s : State) (events : List Event) (replies : List Reply) (t : State) → Run s events replies t → IsKept s → stands_at s ⊎ IsPast position s
      → some_answer (is_reset name) events replies ≡ false → some_answer (is_sent_at name position) events replies ≡ false
  never_sent s [] [] t run kept was r = refl
  never_sent s (event ∷ events) (reply ∷ replies) t run kept was r =
      let parts = or_false (is_reset name event reply) (some_answer (is_reset name) events replies) r in
      both_false (is_sent_at name position event reply) (some_answer (is_sent_at name position) events replies)
      (step_sends_other s event reply run.0 run.1 was)
      (never_sent run.0 events replies t run.2 (step_keeps s event reply run.0 run.1 kept) (step_stays s event reply run.0 run.1 parts.0 kept.rising was) parts.1)
  never_sent s [] (reply ∷ replies) t run kept was r = absurd run
  never_sent s (event ∷ events) [] t run kept was r = absurd run
