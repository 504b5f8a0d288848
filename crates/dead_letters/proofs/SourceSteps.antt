-- What an answer makes of the dead letters of a subscription.
use Rattle.std.proofs.Common.{◌≡◌, ℕ, ◌+◌, ◌≤◌, List, [], ◌∷◌, ◌++◌, map, length, take, Some, None, Option, Bool, true, false, refl, ap, ◌∙◌, sym, subst, arith, true≢false, ◌⊎◌, inl, inr}
use Rattle.std.specs.Prelude.{nat_lt, if◌then◌else◌, is_some}
use Rattle.std.specs.List.{find, position_or_len}
use Rattle.std.specs.Str.{bytes_eq}
use Rattle.std.specs.Ordering.{is_lt}
use Rattle.std.specs.FinMap as map_of
use Rattle.position_core.specs.declared.position.Position.{Position}
use Rattle.position_core.specs.declared.held.Held.{Held}
use Rattle.position_core.specs.declared.message.Entry.{Entry}
use Rattle.position_core.specs.declared.kind.Kind.{Kind}
use Rattle.position_core.specs.declared.ranges.HashRange.{HashRange}
use Rattle.position_core.specs.declared.fault.Fault.TheVariants.{SubscriptionBusy}
use Rattle.position_core.specs.Name.{name_order}
use Rattle.delivery_machine.specs.State.{State, Member, Subscription, DeadLetter}
use Rattle.delivery_machine.specs.Words.{changed, removed, is_named, is_member, is_producer, active_at, members_of}
use Rattle.delivery_machine.specs.Refusals.{refusal_of, dropping_refused, is_duplicate}
use Rattle.delivery_machine.specs.Producing.{with_message, message_of, stored, stored_to}
use Rattle.delivery_machine.specs.Joining.{is_taken_over, taken_over, all_released, with_member, without_member, joining, new_subscription, placed, releasing_all, leaving}
use Rattle.delivery_machine.specs.Acknowledging.{Acks, positions_up_to, acknowledging, with_acknowledged}
use Rattle.delivery_machine.specs.Delivering.{Dispatches, holding, due_after}
use Rattle.delivery_machine.specs.Ticking.{Ticks, redelivering, redelivered, is_due, pending_positions}
use Rattle.delivery_machine.specs.Seeking.{seeking, sought, length_before, length_before_time, first_live}
use Rattle.delivery_machine.specs.Dying.{dying_at, burying, letter_of, died}
use Rattle.delivery_machine.specs.WellFormed.{has_message}
use Rattle.delivery_machine.specs.Trimming.{going, without_messages, Trims}
use Rattle.delivery_machine.specs.Run.{Takes}
use Rattle.delivery_machine.specs.declared.event.Initial.{Initial}
use Rattle.delivery_machine.specs.declared.event.Event.{Event}
use Rattle.delivery_machine.specs.declared.event.Event.TheVariants.{AddProducer, DropProducer, Publish, Stored, StoredTo, Progress, Subscribe, Leave, Permit, Ack, AckUpTo, Nack, Tick, Seek, SeekTime, Skip, DropSubscription, Trim, SetRetention, Dispatch, Collect, DeadNext, DeadDone}
use Rattle.delivery_machine.specs.declared.event.Event.TheVariants as event
use Rattle.delivery_machine.specs.declared.reply.Reply.{Reply}
use Rattle.delivery_machine.specs.declared.reply.Reply.TheVariants.{Quiet, Rewound, Released, Died, Sent, Idle, Trimmed, Untrimmed}
use Rattle.delivery_machine.proofs.Firsts.{some_elim, found_passes}
use Rattle.delivery_machine.proofs.Finding.{find_removed}
use Rattle.delivery_machine.proofs.Behind.{same_name, other_name, names_differ}
use Rattle.machine_laws.proofs.Named.{found_left}
use Rattle.delivery_machine.proofs.Kept.{not_refused}
use Rattle.delivery_machine.proofs.Deciding.{or_false, none_below}
use Rattle.machine_laws.proofs.WellReached.{IsAllKept}
use Rattle.dead_letters.proofs.LettersAt.{Letters, letters_of, letters_found, letters_in, KeepsLetters, letters_changed, letters_mapped, letters_beside, letters_itself, letters_inserted}

abbrev pub letters_at : State → List ℕ → Letters
letters_at s n = letters_in s.subscriptions n

-- the letters of the subscription stay as they are
pub record IsCalm (n : List ℕ) (s t : State) : Type 0 where
  pub letters : letters_at t n ≡ letters_at s n
  pub ordinal : s.next_ordinal ≤ t.next_ordinal

-- one dies more, under the next ordinal
pub record Dies (n : List ℕ) (s t : State) : Type 0 where
  pub letter : DeadLetter
  pub letters : letters_at t n ≡ ((letters_at s n).0 ++ letter ∷ [], (letters_at s n).1)
  pub ordinal : letter.ordinal ≡ s.next_ordinal
  pub next : t.next_ordinal ≡ s.next_ordinal + 1
  pub there : has_message s.log letter.position ≡ true

-- what an event makes of them
abbrev pub Changes : List ℕ → State → Event → Reply → State → Type 0
Changes n s (Tick name now) r t = IsCalm n s t ⊎ Dies n s t
Changes n s Stored r t = t ≡ stored s
Changes n s (StoredTo count ordinal) r t = t ≡ stored_to s count ordinal
Changes n s (DeadDone name ordinal) r t = Takes s (DeadDone name ordinal) r t
Changes n s e r t = IsCalm n s t

plain : (f : Subscription → Subscription) → ((sub : Subscription) → (f sub).name ≡ sub.name) → ((sub : Subscription) → letters_of (f sub) ≡ letters_of sub) → KeepsLetters f
plain f name letters = record { name = name; letters = letters }

module _ (n : List ℕ) where
  calm : (s t : State) → letters_at t n ≡ letters_at s n → t.next_ordinal ≡ s.next_ordinal → IsCalm n s t
  calm s t letters ordinal = record { letters = letters; ordinal = omega arith }

  calm_as : (s t u : State) → t ≡ u → IsCalm n s u → IsCalm n s t
  calm_as s t u is at = subst (IsCalm n s) (sym is) at

  -- where one subscription is changed, and not its letters
  calm_changed : (s t : State) (q : Subscription → Bool) (f : Subscription → Subscription) → t.subscriptions ≡ changed q f s.subscriptions → t.next_ordinal ≡ s.next_ordinal → KeepsLetters f → IsCalm n s t
  calm_changed s t q f is next keeps = calm s t (ap (λ subs. letters_in subs n) is ∙ letters_changed n q f keeps s.subscriptions) next

  calm_over : (s : State) (name : List ℕ) (before : Option ℕ) (t : State) → IsCalm n s t → IsCalm n s (taken_over name before t)
  calm_over s name before t at = by (is_taken_over name before t)
    where
      by : (b : Bool) → IsCalm n s (if b then all_released name t else t)
      by true = record { letters = letters_changed n (is_named name) releasing_all (plain releasing_all (λ _. refl) (λ _. refl)) t.subscriptions ∙ at.letters; ordinal = at.ordinal }
      by false = at

  calm_acknowledged : (s : State) (name : List ℕ) (positions : List Position) → IsCalm n s (with_acknowledged s name positions)
  calm_acknowledged s name positions = calm_changed s _ (is_named name) (acknowledging positions) refl refl (plain (acknowledging positions) (λ _. refl) (λ _. refl))

  calm_redelivered : (s : State) (name : List ℕ) (positions : List Position) → IsCalm n s (redelivered s name positions)
  calm_redelivered s name positions = calm_changed s _ (is_named name) (redelivering positions) refl refl (plain (redelivering positions) (λ _. refl) (λ _. refl))

  calm_sought : (s : State) (name : List ℕ) (count : ℕ) → IsCalm n s (sought s name count)
  calm_sought s name count = calm_changed s _ (is_named name) (seeking (take count s.log)) refl refl (plain (seeking (take count s.log)) (λ _. refl) (λ _. refl))

  calm_acks : (s : State) (consumer : ℕ) (positions : List Position) (r : Reply) (t : State) → Acks s consumer positions r t → IsCalm n s t
  calm_acks s consumer positions r t h =
      some_elim (find (is_member consumer) s.members) _ (IsCalm n s t) h.1 (λ m found is.
      calm_as s t _ is (calm_acknowledged s m.subscription positions))

  calm_sent : (s : State) (name : List ℕ) (now : ℕ) (sub : Subscription) (r : Reply) (t : State) → Dispatches s name now sub r t → IsCalm n s t
  calm_sent s name now sub (Sent consumer position count) t h =
      let held : Held = record { consumer = h.1.number; due = due_after now h.1.ack_timeout } in
      calm_as s t _ h.6 (calm_changed s _ (is_named name) (holding h.0.position held) refl refl (plain (holding h.0.position held) (λ _. refl) (λ _. refl)))
  calm_sent s name now sub Idle t h = calm_as s t s h.1 (calm s s refl refl)
  calm_sent s name now sub reply t h = absurd h

  calm_joined : (s : State) (kind : Kind) (ranges : Option (List HashRange)) (initial : Initial) (m : Member) → IsCalm n s (with_member s kind ranges initial m)
  calm_joined s kind ranges initial m = calm s (with_member s kind ranges initial m) (by (find (is_named m.subscription) s.subscriptions) refl) refl
    where
      new : Subscription
      new = new_subscription m.subscription kind ranges m.number initial s.log

      by : (o : Option Subscription) → find (is_named m.subscription) s.subscriptions ≡ o
          → letters_in (if is_some o then changed (is_named m.subscription) (joining kind ranges m.number) s.subscriptions else placed new s.subscriptions) n ≡ letters_at s n
      by (Some sub) found = letters_changed n (is_named m.subscription) (joining kind ranges m.number) (plain (joining kind ranges m.number) (λ _. refl) (λ _. refl)) s.subscriptions
      by None none =
          letters_inserted n s.subscriptions (position_or_len (λ other. is_lt (name_order new.name other.name)) s.subscriptions) new refl
          (λ t. subst (λ (name : List ℕ). find (is_named name) s.subscriptions ≡ None) (same_name m.subscription n t) none)

  -- ---- a subscription goes

  no_letters : (dead : List DeadLetter) → length dead ≡ 0 → dead ≡ []
  no_letters [] e = refl
  no_letters (d ∷ dead) e = absurd (omega arith)

  without_letters : (sub : Subscription) → length sub.dead ≡ 0 → sub.safe ≤ length sub.dead → letters_of sub ≡ ([], 0)
  without_letters sub none low =
      let dead : sub.dead ≡ [] = no_letters sub.dead none in
      let safe : sub.safe ≡ 0 = omega arith in
      cc

  calm_dropped : (s : State) (name : List ℕ) → IsAllKept s → dropping_refused s name (find (is_named name) s.subscriptions) ≡ None → letters_in (removed (is_named name) s.subscriptions) n ≡ letters_at s n
  calm_dropped s name all allowed = by (bytes_eq name n) refl
    where
      gone : (o : Option Subscription) → find (is_named name) (removed (is_named name) s.subscriptions) ≡ o → o ≡ None
      gone None e = refl
      gone (Some sub) e =
          let left = found_left name name s.subscriptions sub all.well.named e in
          absurd (true≢false (sym (found_passes (is_named name) s.subscriptions sub left.0) ∙ left.1))

      had : (o : Option Subscription) → find (is_named name) s.subscriptions ≡ o → dropping_refused s name o ≡ None → letters_found o ≡ ([], 0)
      had None e refused = refl
      had (Some sub) e refused =
          let tests = or_false (nat_lt 0 (length (members_of s name))) (nat_lt 0 (length sub.dead)) (not_refused _ SubscriptionBusy None refused) in
          without_letters sub (none_below (length sub.dead) tests.1) (all.well.each name sub e).safe

      by : (b : Bool) → bytes_eq name n ≡ b → letters_in (removed (is_named name) s.subscriptions) n ≡ letters_at s n
      by true t =
          let is : name ≡ n = same_name name n t in
          let after : letters_in (removed (is_named name) s.subscriptions) name ≡ ([], 0) = ap letters_found (gone (find (is_named name) (removed (is_named name) s.subscriptions)) refl) in
          let before : letters_at s name ≡ ([], 0) = had (find (is_named name) s.subscriptions) refl allowed in
          subst (λ (k : List ℕ). letters_in (removed (is_named name) s.subscriptions) k ≡ letters_at s k) is (after ∙ sym before)
      by false f = ap letters_found (find_removed (is_named n) (is_named name) (λ sub t. other_name n name sub (differ f) t) s.subscriptions)
        where
          differ : bytes_eq name n ≡ false → bytes_eq n name ≡ false
          differ f = names_differ name n f

  -- ---- ticks

  due_held : (now : ℕ) (o : Option Held) → is_due now o ≡ true → (held : Held) × (o ≡ Some held)
  due_held now None e = absurd (true≢false (sym e))
  due_held now (Some held) e = (held, refl)

  ticked : (s : State) (name : List ℕ) (now : ℕ) (sub : Subscription) (r : Reply) (t : State) → IsAllKept s → find (is_named name) s.subscriptions ≡ Some sub → Ticks s name now sub r t → IsCalm n s t ⊎ Dies n s t
  ticked s name now sub Quiet t all found h = inl (calm_as s t s h.1 (calm s s refl refl))
  ticked s name now sub (Rewound count) t all found h =
      inl (calm_as s t _ h.3 (calm_redelivered s name (pending_positions s sub)))
  ticked s name now sub (Released p) t all found h =
      inl (calm_as s t _ h.3 (calm_redelivered s name (p ∷ [])))
  ticked s name now sub (Died p ordinal) t all found h = some_elim (dying_at s sub p) _ (IsCalm n s t ⊎ Dies n s t) h.3 (λ m at is. by m is (bytes_eq name n) refl)
    where
      there : has_message s.log p ≡ true
      there = let held = due_held now (map_of.get sub.pending p) h.1 in (all.order.kept.tended.first name sub found).in_log p held.0 held.1

      by : (m : Member) → t ≡ died s name p m → (b : Bool) → bytes_eq name n ≡ b → IsCalm n s t ⊎ Dies n s t
      by m is true e =
          let same : name ≡ n = same_name name n e in
          let at : find (is_named n) s.subscriptions ≡ Some sub = subst (λ (k : List ℕ). find (is_named k) s.subscriptions ≡ Some sub) same found in
          let own : letters_in (changed (is_named n) (burying (letter_of s p m)) s.subscriptions) n ≡ (sub.dead ++ letter_of s p m ∷ [], sub.safe) =
          letters_itself n (burying (letter_of s p m)) (λ _. refl) s.subscriptions sub at in
          let was : letters_at s n ≡ (sub.dead, sub.safe) = ap letters_found at in
          inr (subst (Dies n s) (sym is) (record {
            letter = letter_of s p m;
            letters = subst (λ (k : List ℕ). letters_in (changed (is_named k) (burying (letter_of s p m)) s.subscriptions) n ≡ ((letters_at s n).0 ++ letter_of s p m ∷ [], (letters_at s n).1)) (sym same)
                (own ∙ ap (λ (l : Letters). (l.0 ++ letter_of s p m ∷ [], l.1)) (sym was));
            ordinal = refl;
            next = refl;
            there = there;
          }))
      by m is false e = inl (subst (IsCalm n s) (sym is) (record {
        letters = letters_beside n name (burying (letter_of s p m)) (λ _. refl) (λ other t. other_name n name other (differ e) t) s.subscriptions;
        ordinal = omega arith;
      }))
        where
          differ : bytes_eq name n ≡ false → bytes_eq n name ≡ false
          differ f = names_differ name n f
  ticked s name now sub reply t all found h = absurd h

  -- ---- each event

  calm_published : (s : State) (t u : State) (duplicate : Bool) → t ≡ (if duplicate then s else u) → IsCalm n s u → IsCalm n s t
  calm_published s t u true is at = calm_as s t s is (calm s s refl refl)
  calm_published s t u false is at = calm_as s t u is at

  calm_trimmed : (s : State) (keep before most : ℕ) (r : Reply) (t : State) → Trims s keep before most r t → IsCalm n s t
  calm_trimmed s keep before most (Trimmed all) t h =
      let forget = without_messages (map (λ (e : Entry). e.position) (take (going s keep before most) s.log)) in
      calm_as s t _ h.2 (calm s _ (letters_mapped n forget (plain forget (λ _. refl) (λ _. refl)) s.subscriptions) refl)
  calm_trimmed s keep before most Untrimmed t h = calm_as s t s h.1 (calm s s refl refl)
  calm_trimmed s keep before most r t h = absurd h

  pub source_changes : (s : State) (e : Event) (r : Reply) (t : State) → IsAllKept s → refusal_of s e ≡ None → Takes s e r t → Changes n s e r t
  source_changes s (AddProducer name base) r t all allowed h = calm_as s t _ h.3.1 (calm s _ refl refl)
  source_changes s (DropProducer producer) r t all allowed h = calm_as s t _ h.1 (calm s _ refl refl)
  source_changes s (Publish producer sequence body now) r t all allowed h =
      some_elim (find (is_producer producer) s.producers) _ (IsCalm n s t) h (λ p found h.
      calm_published s t (with_message s (message_of s p sequence body now)) (is_duplicate s p sequence) h.1 (calm s _ refl refl))
  source_changes s Stored r t all allowed h = h.1
  source_changes s (StoredTo count ordinal) r t all allowed h = h.1
  source_changes s Progress r t all allowed h = calm_as s t s h.1 (calm s s refl refl)
  source_changes s (Subscribe name kind lvl flow ack_timeout nack_delay max_redeliver dead_topic initial ranges) r t all allowed h =
      calm_as s t _ h.1 (calm_over s name (active_at s name) (with_member s kind ranges initial _) (calm_joined s kind ranges initial _))
  source_changes s (Leave consumer) r t all allowed h =
      some_elim (find (is_member consumer) s.members) _ (IsCalm n s t) h.1 (λ m found is.
      calm_as s t _ is (calm_over s m.subscription (active_at s m.subscription) (without_member s consumer m.subscription)
      (calm_changed s _ (is_named m.subscription) (leaving consumer) refl refl (plain (leaving consumer) (λ _. refl) (λ _. refl)))))
  source_changes s (Permit consumer permits) r t all allowed h = calm_as s t _ h.1 (calm s _ refl refl)
  source_changes s (Ack consumer position) r t all allowed h = calm_acks s consumer (position ∷ []) r t h
  source_changes s (AckUpTo consumer position) r t all allowed h = calm_acks s consumer (positions_up_to position s.log) r t h
  source_changes s (Nack consumer position now) r t all allowed h =
      some_elim (find (is_member consumer) s.members) _ (IsCalm n s t) h.1 (λ m found is.
      calm_as s t _ is (calm_changed s _ (is_named m.subscription) (holding position (record { consumer = consumer; due = Some (now + m.nack_delay) })) refl refl (plain (holding position (record { consumer = consumer; due = Some (now + m.nack_delay) })) (λ _. refl) (λ _. refl))))
  source_changes s (Tick name now) r t all allowed h =
      some_elim (find (is_named name) s.subscriptions) _ (IsCalm n s t ⊎ Dies n s t) h (λ sub found h. ticked s name now sub r t all found h)
  source_changes s (Seek name target) r t all allowed h = calm_as s t _ h.1 (calm_sought s name (length_before s target))
  source_changes s (SeekTime name time) r t all allowed h = calm_as s t _ h.1 (calm_sought s name (length_before_time s time))
  source_changes s (Skip name count) r t all allowed h =
      some_elim (find (is_named name) s.subscriptions) _ (IsCalm n s t) h (λ sub found h.
      calm_as s t _ h.1 (calm_acknowledged s name (first_live s sub count)))
  source_changes s (Trim keep before most) r t all allowed h = calm_trimmed s keep before most r t h
  source_changes s (SetRetention retention) r t all allowed h = calm_as s t _ h.1 (calm s _ refl refl)
  source_changes s (DropSubscription name) r t all allowed h = calm_as s t _ h.1 (calm s _ (calm_dropped s name all allowed) refl)
  source_changes s (event.Stats name) r t all allowed h =
      some_elim (find (is_named name) s.subscriptions) _ (IsCalm n s t) h (λ sub found h. calm_as s t s h.1 (calm s s refl refl))
  source_changes s (Dispatch name now) r t all allowed h =
      some_elim (find (is_named name) s.subscriptions) _ (IsCalm n s t) h (λ sub found h. calm_sent s name now sub r t h)
  source_changes s (Collect consumer) r t all allowed h = calm_as s t _ h.1 (calm s _ refl refl)
  source_changes s (DeadNext name) r t all allowed h =
      some_elim (find (is_named name) s.subscriptions) _ (IsCalm n s t) h (λ sub found h. calm_as s t s h.1 (calm s s refl refl))
  source_changes s (DeadDone name ordinal) r t all allowed h = h
