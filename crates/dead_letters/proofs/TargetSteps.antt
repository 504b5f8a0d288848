-- What an answer that is not to a courier makes of the couriers' messages and producers: nothing.
use Rattle.std.proofs.Common.{◌≡◌, ℕ, List, [], ◌∷◌, ◌++◌, Some, Option, Bool, true, false, cond, refl, ap, ◌∙◌, sym, subst, true≢false, ◌⊎◌, inl, inr}
use mathlib.Core.List.{IsPrefix}
use Rattle.std.specs.Prelude.{◌==◌, ⊤, not, if◌then◌else◌}
use Rattle.std.specs.List.{find, filter}
use Rattle.std.specs.Option.{option_map_or}
use Rattle.std.specs.Str.{bytes_eq}
use Rattle.std.proofs.lemmas.List.{append-nil}
use Rattle.position_core.specs.declared.position.Position.{Position}
use Rattle.position_core.specs.declared.message.Entry.{Entry}
use Rattle.delivery_machine.specs.State.{State, Producer, Subscription}
use Rattle.delivery_machine.specs.Words.{removed, is_named, is_member, is_producer, active_at}
use Rattle.delivery_machine.specs.Refusals.{is_duplicate}
use Rattle.delivery_machine.specs.Producing.{with_message, message_of}
use Rattle.delivery_machine.specs.Joining.{is_taken_over, taken_over, all_released, with_member, without_member}
use Rattle.delivery_machine.specs.Acknowledging.{Acks, positions_up_to}
use Rattle.delivery_machine.specs.Delivering.{Dispatches}
use Rattle.delivery_machine.specs.Ticking.{Ticks}
use Rattle.delivery_machine.specs.Dying.{dying_at, first_safe}
use Rattle.delivery_machine.specs.Trimming.{going, trimmed, Trims}
use Rattle.delivery_machine.specs.Run.{Takes}
use Rattle.delivery_machine.specs.declared.event.Event.{Event}
use Rattle.delivery_machine.specs.declared.event.Event.TheVariants.{AddProducer, DropProducer, Publish, Stored, StoredTo, Progress, Subscribe, Leave, Permit, Ack, AckUpTo, Nack, Tick, Seek, SeekTime, Skip, DropSubscription, Trim, SetRetention, Dispatch, Collect, DeadNext, DeadDone}
use Rattle.delivery_machine.specs.declared.event.Event.TheVariants as event
use Rattle.delivery_machine.specs.declared.reply.Reply.{Reply}
use Rattle.delivery_machine.specs.declared.reply.Reply.TheVariants.{Quiet, Rewound, Released, Died, Sent, Idle, Trimmed, Untrimmed}
use Rattle.delivery_machine.proofs.Firsts.{some_elim}
use Rattle.delivery_machine.proofs.Finding.{find_removed}
use Rattle.delivery_machine.proofs.Behind.{is_same_name}
use Rattle.delivery_machine.proofs.Trimmed.{IsGoing, are_going}
use Rattle.delivery_machine.proofs.Deciding.{number_is}
use Rattle.dead_letters.specs.declared.route.Route.{Route}
use Rattle.dead_letters.specs.Worlds.{leaves_couriers, is_couriers}
use Rattle.dead_letters.specs.Laws.{is_from}
use Rattle.dead_letters.proofs.Fronts.{front_same, filtered_append}

-- the messages and the producers stay
record IsSteady (s t : State) : Type 0 where
  gone : t.gone ≡ s.gone
  authors : t.authors ≡ s.authors
  log : t.log ≡ s.log
  producers : t.producers ≡ s.producers

-- messages may come, and none goes
pub record IsAdded (s t : State) : Type 0 where
  pub gone : t.gone ≡ s.gone
  pub authors : t.authors ≡ s.authors
  pub log : IsPrefix s.log t.log

-- the first ones go
abbrev pub IsTrimmed : State → State → Type 0
IsTrimmed s t = (n : ℕ) × IsGoing s n × (t ≡ trimmed n s)

abbrev pub Goes : State → State → Type 0
Goes s t = IsAdded s t ⊎ IsTrimmed s t

abbrev pub copies : List ℕ → List Entry → List Entry
copies name log = filter (is_from name) log

abbrev pub StaysConnected : List ℕ → List Producer → List Producer → Type 0
StaysConnected name before after = (number : ℕ) (p : Producer) → find (is_producer number) before ≡ Some p → p.name ≡ name → find (is_producer number) after ≡ Some p

-- the messages of the name stay, or go with others, and whoever bears it stays
pub record IsApart (name : List ℕ) (s t : State) : Type 0 where
  pub goes : (copies name t.log ≡ copies name s.log) ⊎ IsTrimmed s t
  pub connected : StaysConnected name s.producers t.producers

same_producers : (name : List ℕ) (before after : List Producer) → after ≡ before → StaysConnected name before after
same_producers name before after is number p found named = ap (find (is_producer number)) is ∙ found

apart_steady : (name : List ℕ) (s t : State) → IsSteady s t → IsApart name s t
apart_steady name s t at = record { goes = inl (ap (copies name) at.log); connected = same_producers name s.producers t.producers at.producers }

added_steady : (s t : State) → IsSteady s t → IsAdded s t
added_steady s t at = record { gone = at.gone; authors = at.authors; log = subst (IsPrefix s.log) (sym at.log) (front_same s.log) }

steady : (s : State) → IsSteady s s
steady s = record { gone = refl; authors = refl; log = refl; producers = refl }

pub apart_itself : (name : List ℕ) (s : State) → IsApart name s s
apart_itself name s = apart_steady name s s (steady s)

steady_as : (s t u : State) → t ≡ u → IsSteady s u → IsSteady s t
steady_as s t u is at = subst (IsSteady s) (sym is) at

steady_over : (s : State) (name : List ℕ) (before : Option ℕ) (t : State) → IsSteady s t → IsSteady s (taken_over name before t)
steady_over s name before t at = by (is_taken_over name before t)
  where
    by : (b : Bool) → IsSteady s (if b then all_released name t else t)
    by true = record { gone = at.gone; authors = at.authors; log = at.log; producers = at.producers }
    by false = at

steady_acks : (s : State) (consumer : ℕ) (positions : List Position) (r : Reply) (t : State) → Acks s consumer positions r t → IsSteady s t
steady_acks s consumer positions r t h =
    some_elim (find (is_member consumer) s.members) _ (IsSteady s t) h.1 (λ m found is. steady_as s t _ is (record { gone = refl; authors = refl; log = refl; producers = refl }))

steady_ticks : (s : State) (name : List ℕ) (now : ℕ) (sub : Subscription) (r : Reply) (t : State) → Ticks s name now sub r t → IsSteady s t
steady_ticks s name now sub Quiet t h = steady_as s t s h.1 (steady s)
steady_ticks s name now sub (Rewound count) t h = steady_as s t _ h.3 (record { gone = refl; authors = refl; log = refl; producers = refl })
steady_ticks s name now sub (Released p) t h = steady_as s t _ h.3 (record { gone = refl; authors = refl; log = refl; producers = refl })
steady_ticks s name now sub (Died p ordinal) t h =
    some_elim (dying_at s sub p) _ (IsSteady s t) h.3 (λ m found is. steady_as s t _ is (record { gone = refl; authors = refl; log = refl; producers = refl }))
steady_ticks s name now sub reply t h = absurd h

steady_sent : (s : State) (name : List ℕ) (now : ℕ) (sub : Subscription) (r : Reply) (t : State) → Dispatches s name now sub r t → IsSteady s t
steady_sent s name now sub (Sent consumer position count) t h = steady_as s t _ h.6 (record { gone = refl; authors = refl; log = refl; producers = refl })
steady_sent s name now sub Idle t h = steady_as s t s h.1 (steady s)
steady_sent s name now sub reply t h = absurd h

pub found_before : {A : Type 0} (p : A → Bool) (xs ys : List A) (x : A) → find p xs ≡ Some x → find p (xs ++ ys) ≡ Some x
found_before p [] ys x found = cc
found_before p (z ∷ zs) ys x found = by (p z) found (found_before p zs ys x)
  where
    by : (b : Bool) → cond b (Some z) (find p zs) ≡ Some x → (find p zs ≡ Some x → find p (zs ++ ys) ≡ Some x) → cond b (Some z) (find p (zs ++ ys)) ≡ Some x
    by true found rest = found
    by false found rest = rest found

apart_as : (name : List ℕ) (s t u : State) → t ≡ u → IsApart name s u → IsApart name s t
apart_as name s t u is at = subst (IsApart name s) (sym is) at

pub added : (name : List ℕ) (s : State) (more : List Producer) → StaysConnected name s.producers (s.producers ++ more)
added name s more number p found named = found_before (is_producer number) s.producers more p found

-- the producer that is found is the couriers'
bears : (route : Route) (s : State) (number : ℕ) (p : Producer) → find (is_producer number) s.producers ≡ Some p → p.name ≡ route.name → is_couriers route s number ≡ true
bears route s number p found named = ap (λ o. option_map_or (λ (q : Producer). bytes_eq q.name route.name) o false) found ∙ is_same_name p.name route.name named

not_false : (b : Bool) → not b ≡ true → b ≡ false
not_false true e = absurd (true≢false (sym e))
not_false false e = refl

pub left_out : (name : List ℕ) (log : List Entry) (e : Entry) → is_from name e ≡ false → copies name (log ++ e ∷ []) ≡ copies name log
left_out name log e other = filtered_append (is_from name) log (e ∷ []) ∙ ap (λ (b : Bool). copies name log ++ cond b (e ∷ []) []) other ∙ append-nil (copies name log)

-- where one goes that is not the couriers'
dropped : (route : Route) (s : State) (number : ℕ) → is_couriers route s number ≡ false → StaysConnected route.name s.producers (removed (is_producer number) s.producers)
dropped route s number other q p found named = by (number == q) refl
  where
    differs : (a b c : ℕ) → (a == b) ≡ false → (c == a) ≡ true → (c == b) ≡ false
    differs a b c f t = subst (λ (k : ℕ). (k == b) ≡ false) (sym (number_is c a t)) f

    by : (b : Bool) → (number == q) ≡ b → find (is_producer q) (removed (is_producer number) s.producers) ≡ Some p
    by true e = absurd (true≢false (sym (subst (λ (k : ℕ). is_couriers route s k ≡ true) (sym (number_is number q e)) (bears route s q p found named)) ∙ other))
    by false f = find_removed (is_producer q) (is_producer number) (λ (x : Producer) t. differs number q x.number f t) s.producers ∙ found

published : (route : Route) (s t : State) (p : Producer) (e : Entry) (duplicate : Bool) → e.producer ≡ p.name → bytes_eq p.name route.name ≡ false → t ≡ (if duplicate then s else with_message s e) → IsApart route.name s t
published route s t p e true named other is = apart_as route.name s t s is (apart_steady route.name s s (steady s))
published route s t p e false named other is = apart_as route.name s t (with_message s e) is (record {
  goes = inl (left_out route.name s.log e (ap (λ (name : List ℕ). bytes_eq name route.name) named ∙ other));
  connected = same_producers route.name s.producers s.producers refl;
})

-- what an answer makes of them, but where a producer comes or goes, or messages do
abbrev Keeps : State → Event → State → Type 0
Keeps s (AddProducer name base) t = ⊤
Keeps s (DropProducer producer) t = ⊤
Keeps s (Publish producer sequence body now) t = ⊤
Keeps s (Trim keep before most) t = ⊤
Keeps s e t = IsSteady s t

steady_taken : (s : State) (e : Event) (r : Reply) (t : State) → Takes s e r t → Keeps s e t
steady_taken s (AddProducer name base) r t h = tt
steady_taken s (DropProducer producer) r t h = tt
steady_taken s (Publish producer sequence body now) r t h = tt
steady_taken s (Trim keep before most) r t h = tt
steady_taken s (SetRetention retention) r t h = steady_as s t _ h.1 (record { gone = refl; authors = refl; log = refl; producers = refl })
steady_taken s Stored r t h = (steady_as s t _ h.1 (record { gone = refl; authors = refl; log = refl; producers = refl }))
steady_taken s (StoredTo count ordinal) r t h = (steady_as s t _ h.1 (record { gone = refl; authors = refl; log = refl; producers = refl }))
steady_taken s Progress r t h = (steady_as s t s h.1 (steady s))
steady_taken s (Subscribe name kind lvl flow ack_timeout nack_delay max_redeliver dead_topic initial ranges) r t h =
    (steady_as s t _ h.1 (steady_over s name (active_at s name) (with_member s kind ranges initial _) (record { gone = refl; authors = refl; log = refl; producers = refl })))
steady_taken s (Leave consumer) r t h =
    some_elim (find (is_member consumer) s.members) _ (IsSteady s t) h.1 (λ m found is.
    (steady_as s t _ is (steady_over s m.subscription (active_at s m.subscription) (without_member s consumer m.subscription) (record { gone = refl; authors = refl; log = refl; producers = refl }))))
steady_taken s (Permit consumer permits) r t h = (steady_as s t _ h.1 (record { gone = refl; authors = refl; log = refl; producers = refl }))
steady_taken s (Ack consumer position) r t h = (steady_acks s consumer (position ∷ []) r t h)
steady_taken s (AckUpTo consumer position) r t h = (steady_acks s consumer (positions_up_to position s.log) r t h)
steady_taken s (Nack consumer position now) r t h =
    some_elim (find (is_member consumer) s.members) _ (IsSteady s t) h.1 (λ m found is. (steady_as s t _ is (record { gone = refl; authors = refl; log = refl; producers = refl })))
steady_taken s (Tick name now) r t h =
    some_elim (find (is_named name) s.subscriptions) _ (IsSteady s t) h (λ sub found h. (steady_ticks s name now sub r t h))
steady_taken s (Seek name target) r t h = (steady_as s t _ h.1 (record { gone = refl; authors = refl; log = refl; producers = refl }))
steady_taken s (SeekTime name time) r t h = (steady_as s t _ h.1 (record { gone = refl; authors = refl; log = refl; producers = refl }))
steady_taken s (Skip name count) r t h =
    some_elim (find (is_named name) s.subscriptions) _ (IsSteady s t) h (λ sub found h. (steady_as s t _ h.1 (record { gone = refl; authors = refl; log = refl; producers = refl })))
steady_taken s (DropSubscription name) r t h = (steady_as s t _ h.1 (record { gone = refl; authors = refl; log = refl; producers = refl }))
steady_taken s (event.Stats name) r t h =
    some_elim (find (is_named name) s.subscriptions) _ (IsSteady s t) h (λ sub found h. (steady_as s t s h.1 (steady s)))
steady_taken s (Dispatch name now) r t h =
    some_elim (find (is_named name) s.subscriptions) _ (IsSteady s t) h (λ sub found h. (steady_sent s name now sub r t h))
steady_taken s (Collect consumer) r t h = (steady_as s t _ h.1 (record { gone = refl; authors = refl; log = refl; producers = refl }))
steady_taken s (DeadNext name) r t h =
    some_elim (find (is_named name) s.subscriptions) _ (IsSteady s t) h (λ sub found h. (steady_as s t s h.1 (steady s)))
steady_taken s (DeadDone name ordinal) r t h =
    some_elim (find (is_named name) s.subscriptions) _ (IsSteady s t) h (λ sub found h.
    some_elim (first_safe sub) _ (IsSteady s t) h.1 (λ d first is.
    (steady_as s t _ is (record { gone = refl; authors = refl; log = refl; producers = refl }))))

-- ---- the messages

added_published : (s t : State) (e : Entry) (duplicate : Bool) → t ≡ (if duplicate then s else with_message s e) → IsAdded s t
added_published s t e true is = added_steady s t (steady_as s t s is (steady s))
added_published s t e false is = subst (IsAdded s) (sym is) (record { gone = refl; authors = refl; log = (e ∷ [], refl) })

trim_goes : (s : State) (keep before most : ℕ) (r : Reply) (t : State) → Trims s keep before most r t → (t ≡ s) ⊎ IsTrimmed s t
trim_goes s keep before most (Trimmed all) t h = inr (going s keep before most, are_going s keep before most h.0, h.2)
trim_goes s keep before most Untrimmed t h = inl h.1
trim_goes s keep before most r t h = absurd h

pub taken_goes : (s : State) (e : Event) (r : Reply) (t : State) → Takes s e r t → Goes s t
taken_goes s (AddProducer name base) r t h = inl (subst (IsAdded s) (sym h.3.1) (record { gone = refl; authors = refl; log = front_same s.log }))
taken_goes s (DropProducer producer) r t h = inl (subst (IsAdded s) (sym h.1) (record { gone = refl; authors = refl; log = front_same s.log }))
taken_goes s (Publish producer sequence body now) r t h =
    some_elim (find (is_producer producer) s.producers) _ (Goes s t) h (λ p found h.
    inl (added_published s t (message_of s p sequence body now) (is_duplicate s p sequence) h.1))
taken_goes s (Trim keep before most) r t h = elim (trim_goes s keep before most r t h) [
  | inl same ↦ inl (added_steady s t (steady_as s t s same (steady s)))
  | inr out ↦ inr out
]
taken_goes s e r t h = inl (added_steady s t (steady_taken s e r t h))

module _ (route : Route) where
  apart_trimmed : (s t : State) → IsTrimmed s t → IsApart route.name s t
  apart_trimmed s t out = record { goes = inr out; connected = same_producers route.name s.producers t.producers (ap (λ (u : State). u.producers) out.2) }

  pub target_apart : (s : State) (e : Event) (r : Reply) (t : State) → leaves_couriers route s e ≡ true → Takes s e r t → IsApart route.name s t
  target_apart s (AddProducer name base) r t leaves h = apart_as route.name s t _ h.3.1 (record { goes = inl refl; connected = added route.name s _ })
  target_apart s (DropProducer producer) r t leaves h =
      apart_as route.name s t _ h.1 (record { goes = inl refl; connected = dropped route s producer (not_false (is_couriers route s producer) leaves) })
  target_apart s (Publish producer sequence body now) r t leaves h =
      some_elim (find (is_producer producer) s.producers) _ (IsApart route.name s t) h (λ p found h.
      published route s t p (message_of s p sequence body now) (is_duplicate s p sequence) refl
      (sym (ap (λ o. option_map_or (λ (q : Producer). bytes_eq q.name route.name) o false) found) ∙ not_false (is_couriers route s producer) leaves) h.1)
  target_apart s (Trim keep before most) r t leaves h = elim (trim_goes s keep before most r t h) [
    | inl same ↦ apart_steady route.name s t (steady_as s t s same (steady s))
    | inr out ↦ apart_trimmed s t out
  ]
  target_apart s e r t leaves h = apart_steady route.name s t (steady_taken s e r t h)
