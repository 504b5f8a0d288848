-- A topic that goes on from a snapshot.
use Rattle.std.proofs.Common.{◌≡◌, ℕ, ◌+◌, ◌<◌, ◌^◌, List, [], ◌∷◌, ◌++◌, map, length, take, get_or, All, Some, inl, inr, refl, sym, ap, ap₂, ◌∙◌, arith, subst}
use Rattle.std.specs.Prelude.{min, slice_get}
use Rattle.std.proofs.Math.ListN.{length-append}
use Rattle.std.proofs.lemmas.Bool.{cases_lt}
use Rattle.std.proofs.lemmas.List.{map_push, take_more}
use Rattle.std.proofs.lemmas.List.Elements.{All-nil, All-cons, All-head, All-push, All-tail}
use Rattle.std.proofs.lemmas.Option.{slice_get_within}
use Rattle.position_core.specs.declared.message.Entry.{Entry}
use Rattle.delivery_machine.specs.State.{State, Subscription}
use Rattle.delivery_machine.specs.Snapshot.{restarted, subscription_from}
use Rattle.delivery_machine.specs.Places.{AreBelow, KeptPlaces, KeptTopic, MayRestart, kept_in, snapshot_in}
use Rattle.delivery_machine.specs.WellFormed.{IsSoundSubscription}
use Rattle.topic_subscriptions.specs.Placed.{Placed, sub_in}
use Rattle.topic_parts.specs.declared.parts.Parts.{Parts}
use Rattle.topic_parts.specs.Parts.{log_of, state_of}
use Rattle.topic_served.proofs.Spots.{appended_at, appended_before}
use Rattle.topic_served.specs.Agreeing.{agrees}
use Rattle.topic_served.specs.declared.dispatch.Dispatch.{Dispatch}
use Rattle.topic_core.specs.Restored.{IsSoundOver}

-- the machine's subscription that goes on
abbrev pub over : List Entry → KeptPlaces → Subscription
over log kept = subscription_from (kept_in log kept)

pub one_more : (log : List Entry) (kept : List KeptPlaces) (i : ℕ) (k : KeptPlaces) (subs longer : List Placed) (p : Placed) → i < length kept → k ≡ get_or kept i k
    → map (sub_in log) subs ≡ map (over log) (take i kept) → longer ≡ subs ++ p ∷ [] → sub_in log p ≡ over log k → map (sub_in log) longer ≡ map (over log) (take (i + 1) kept)
one_more log kept i k subs longer p low there before longer_is is =
    ap (λ (ps : List Placed). map (sub_in log) ps) longer_is ∙ map_push (sub_in log) subs p
    ∙ ap₂ (λ (xs : List Subscription) (y : Subscription). xs ++ y ∷ []) before (is ∙ ap (over log) there)
    ∙ sym (map_push (over log) (take i kept) (get_or kept i k))
    ∙ ap (λ (ks : List KeptPlaces). map (over log) ks) (sym (take_more kept i k low))

pub push_all : (P : Placed → Type 0) (subs longer : List Placed) (p : Placed) → longer ≡ subs ++ p ∷ [] → All P subs → P p → All P longer
push_all P subs longer p is all one = subst (λ (ps : List Placed). All P ps) (sym is) (All-push P subs p all one)

sound_each : (log : List Entry) (subs : List KeptPlaces) → All (IsSoundSubscription log) (map (kept_in log) subs) → All (λ (k : KeptPlaces). AreBelow (length log) k.acknowledged) subs → All (IsSoundOver log) subs
sound_each log [] sound within = All-nil (IsSoundOver log)
sound_each log (k ∷ subs) sound within =
    All-cons (IsSoundOver log) k subs
    (let one = All-head (IsSoundSubscription log) (kept_in log k) (map (kept_in log) subs) sound in
    record { within = All-head (λ (k : KeptPlaces). AreBelow (length log) k.acknowledged) k subs within; counted = one.counted; dead = one.dead })
    (sound_each log subs (All-tail (IsSoundSubscription log) (kept_in log k) (map (kept_in log) subs) sound) (All-tail (λ (k : KeptPlaces). AreBelow (length log) k.acknowledged) k subs within))

pub sound_over : (kept : KeptTopic) (log : List Entry) (subs : List KeptPlaces) → MayRestart kept → log ≡ kept.log → subs ≡ kept.subscriptions → All (IsSoundOver log) subs
sound_over kept log subs may same_log same_subs =
    subst (λ (ls : List Entry). All (IsSoundOver ls) subs) (sym same_log)
    (subst (λ (ks : List KeptPlaces). All (IsSoundOver kept.log) ks) (sym same_subs) (sound_each kept.log kept.subscriptions may.sound.subscriptions may.within))

map-twice : {A B C : Type 0} (f : A → B) (g : B → C) (xs : List A) → map (λ x. g (f x)) xs ≡ map g (map f xs)
map-twice f g [] = refl
map-twice f g (x ∷ xs) = ap (λ ys. g (f x) ∷ ys) (map-twice f g xs)

pub goes_on : (kept : KeptTopic) (t : Parts) → t.name ≡ kept.name → t.log.log.ledger_size ≡ kept.ledger_size → t.log.log.ledger ≡ min (kept.ledger + 1) (2 ^ 62 + 1) → t.next_ordinal ≡ kept.next_ordinal
    → t.log.gone ≡ kept.gone → t.log.authors ≡ kept.authors → t.log.retention ≡ kept.retention
    → t.log.next_producer ≡ 1 → t.members.next ≡ 1 → log_of t ≡ kept.log → t.log.durable ≡ length (log_of t) → t.log.producers ≡ [] → t.members.members ≡ []
    → map (sub_in (log_of t)) t.subscriptions.items ≡ map (over (log_of t)) kept.subscriptions → state_of t ≡ restarted (snapshot_in kept)
goes_on kept t name size ledger ordinal gone authors retention producer consumer log durable producers members subs =
    let all : map (sub_in (log_of t)) t.subscriptions.items ≡ map subscription_from (map (kept_in kept.log) kept.subscriptions) = subs ∙ ap (λ (ls : List Entry). map (over ls) kept.subscriptions) log ∙ map-twice (kept_in kept.log) subscription_from kept.subscriptions in
    let long : t.log.durable ≡ length kept.log = durable ∙ ap length log in
    cc (name, size, ledger, ordinal, gone, authors, retention, producer, consumer, log, long, producers, members, all)

-- one more dispatcher agrees
pub one_more_told : (s : State) (ds longer : List Dispatch) (i : ℕ) (d : Dispatch) → length ds ≡ i → longer ≡ ds ++ d ∷ []
    → ((k : ℕ) (x : Dispatch) (sub : Subscription) → slice_get ds k ≡ Some x → slice_get s.subscriptions k ≡ Some sub → agrees x s sub)
    → ((sub : Subscription) → slice_get s.subscriptions i ≡ Some sub → agrees d s sub)
    → (k : ℕ) (x : Dispatch) (sub : Subscription) → slice_get longer k ≡ Some x → slice_get s.subscriptions k ≡ Some sub → agrees x s sub
one_more_told s ds longer i d many is before this k x sub there stands =
    elim (cases_lt k (length ds)) [
      | inl low ↦ before k x sub (sym (appended_before ds d k low) ∙ ap (λ (xs : List Dispatch). slice_get xs k) (sym is) ∙ there) stands
      | inr high ↦
          let within = slice_get_within longer k x there in
          let long : length longer ≡ length ds + 1 = ap (λ (xs : List Dispatch). length xs) is ∙ length-append ds (d ∷ []) in
          let last : k ≡ length ds = omega (arith, within, long, high) in
          let itself : slice_get longer k ≡ Some d = ap₂ (λ (xs : List Dispatch) (n : ℕ). slice_get xs n) is last ∙ appended_at ds d in
          let same : Some x ≡ Some d = sym there ∙ itself in
          let here : k ≡ i = last ∙ many in
          subst (λ (y : Dispatch). agrees y s sub) (sym (some_same x d same)) (this sub (ap (λ n. slice_get s.subscriptions n) (sym here) ∙ stands))
    ]
  where
    some_same : (x d : Dispatch) → Some x ≡ Some d → x ≡ d
    some_same x d same = cc
