-- Snapshots of a topic's lists, and the lists that go on from one.
use Rattle.std.proofs.Common.{◌≡◌, ℕ, ◌+◌, ◌<◌, ◌^◌, List, [], ◌∷◌, ◌++◌, Option, Some, length, map, get_or, take, refl, sym, ap, ap₂, ◌∙◌, subst}
use Rattle.std.specs.Prelude.{min, slice_get}
use Rattle.std.specs.List.{All}
use Rattle.std.specs.List.Sorted.{IsStrictlySortedBy}
use Rattle.std.proofs.lemmas.List.{take_more, map-append}
use Rattle.std.proofs.lemmas.List.Elements.{All-nil, All-cons, All-head, All-tail}
use Rattle.std.proofs.lemmas.Option.{slice_get_within, slice_get-get_or}
use Rattle.position_core.specs.Position.{position_cmp}
use Rattle.position_core.specs.declared.topic_name.TopicName.{TopicName}
use Rattle.position_core.specs.declared.message.Entry.{Entry}
use Rattle.delivery_machine.specs.declared.retention.Retention.{Retention}
use Rattle.delivery_machine.specs.State.{State, Author, Subscription, Producer, Member}
use Rattle.delivery_machine.specs.Snapshot.{KeptSubscription, kept_of, snapshot_of, subscription_from, restarted}
use Rattle.delivery_machine.specs.Places.{KeptPlaces, KeptTopic, kept_in, snapshot_in}
use Rattle.delivery_machine.specs.WellFormed.{IsSound, IsSoundSubscription}

-- ---- the log

pub one_more : {A : Type 0} (xs ys zs : List A) (i : ℕ) (x : A) → Some x ≡ slice_get xs i → ys ≡ take i xs → zs ≡ ys ++ x ∷ [] → zs ≡ take (i + 1) xs
one_more xs ys zs i x at before more =
    let below = slice_get_within xs i x (sym at) in
    let there = slice_get-get_or xs i x below in
    let same : x ≡ get_or xs i x = cc (at, there) in
    more ∙ ap (λ ys. ys ++ x ∷ []) before ∙ ap (λ y. take i xs ++ y ∷ []) same ∙ sym (take_more xs i x below)

-- ---- snapshots

each_sound : (log : List Entry) (subs : List Subscription) → All (IsSoundSubscription log) (map kept_of subs) → All (λ (sub : Subscription). IsSoundSubscription log (kept_of sub)) subs
each_sound log [] sound = All-nil (λ (sub : Subscription). IsSoundSubscription log (kept_of sub))
each_sound log (sub ∷ subs) sound =
    All-cons (λ (sub : Subscription). IsSoundSubscription log (kept_of sub)) sub subs
    (All-head (IsSoundSubscription log) (kept_of sub) (map kept_of subs) sound)
    (each_sound log subs (All-tail (IsSoundSubscription log) (kept_of sub) (map kept_of subs) sound))

-- the lists as the code has them
pub sound_here : (s : State) (subs : List Subscription) (log : List Entry) → IsSound (snapshot_of s) → subs ≡ s.subscriptions → log ≡ s.log → All (λ (sub : Subscription). IsSoundSubscription log (kept_of sub)) subs
sound_here s subs log sound same_subs same_log =
    subst (λ (ls : List Entry). All (λ (sub : Subscription). IsSoundSubscription ls (kept_of sub)) subs) (sym same_log)
    (subst (λ (ss : List Subscription). All (λ (sub : Subscription). IsSoundSubscription s.log (kept_of sub)) ss) (sym same_subs) (each_sound s.log s.subscriptions sound.subscriptions))

pub rising_here : (s : State) (log : List Entry) → IsSound (snapshot_of s) → log ≡ s.log → IsStrictlySortedBy position_cmp (map (λ e. e.position) log)
rising_here s log sound same = subst (λ (ls : List Entry). IsStrictlySortedBy position_cmp (map (λ e. e.position) ls)) (sym same) sound.log.positions

-- one subscription more is kept
pub one_kept : (log : List Entry) (xs ys : List KeptPlaces) (subs : List Subscription) (i : ℕ) (kept : KeptPlaces) (sub : Subscription) → i < length subs → sub ≡ get_or subs i sub → kept_in log kept ≡ kept_of sub
    → map (kept_in log) xs ≡ map kept_of (take i subs) → ys ≡ xs ++ kept ∷ [] → map (kept_in log) ys ≡ map kept_of (take (i + 1) subs)
one_kept log xs ys subs i kept sub low is same before more =
    ap (map (kept_in log)) more
    ∙ map-append (kept_in log) xs (kept ∷ [])
    ∙ ap₂ (λ (ks : List KeptSubscription) (k : KeptSubscription). ks ++ k ∷ []) before (same ∙ ap kept_of is)
    ∙ sym (map-append kept_of (take i subs) (get_or subs i sub ∷ []))
    ∙ ap (map kept_of) (sym (take_more subs i sub low))

-- ---- going on

map-twice : {A B C : Type 0} (f : A → B) (g : B → C) (xs : List A) → map (λ x. g (f x)) xs ≡ map g (map f xs)
map-twice f g [] = refl
map-twice f g (x ∷ xs) = ap (λ ys. g (f x) ∷ ys) (map-twice f g xs)

abbrev pub going : TopicName → ℕ → ℕ → ℕ → ℕ → ℕ → ℕ → List Author → Option Retention → ℕ → List Entry → List Producer → List Member → List Subscription → State
going name size ledger ordinal producer consumer gone authors retention durable log producers members subs = record {
  name = name;
  ledger_size = size;
  ledger = ledger;
  next_ordinal = ordinal;
  next_producer = producer;
  next_consumer = consumer;
  gone = gone;
  authors = authors;
  retention = retention;
  log = log;
  durable = durable;
  producers = producers;
  members = members;
  subscriptions = subs;
}

pub goes_on : (kept : KeptTopic) (name : TopicName) (size ledger ordinal producer consumer gone : ℕ) (authors : List Author) (retention : Option Retention) (durable : ℕ) (log : List Entry) (producers : List Producer) (members : List Member) (subs : List Subscription)
    → name ≡ kept.name → size ≡ kept.ledger_size → ledger ≡ min (kept.ledger + 1) (2 ^ 62 + 1) → ordinal ≡ kept.next_ordinal → producer ≡ 1 → consumer ≡ 1
    → gone ≡ kept.gone → authors ≡ kept.authors → retention ≡ kept.retention → log ≡ kept.log → durable ≡ length log → producers ≡ [] → members ≡ [] → subs ≡ map (λ k. subscription_from (kept_in log k)) kept.subscriptions
    → going name size ledger ordinal producer consumer gone authors retention durable log producers members subs ≡ restarted (snapshot_in kept)
goes_on kept name size ledger ordinal producer consumer gone authors retention durable log producers members subs name_is size_is ledger_is ordinal_is producer_is consumer_is gone_is authors_is retention_is log_is durable_is producers_is members_is subs_is =
    let all : subs ≡ map subscription_from (map (kept_in kept.log) kept.subscriptions) = subs_is ∙ ap (λ (ls : List Entry). map (λ k. subscription_from (kept_in ls k)) kept.subscriptions) log_is ∙ map-twice (kept_in kept.log) subscription_from kept.subscriptions in
    let long : durable ≡ length kept.log = durable_is ∙ ap length log_is in
    cc (name_is, size_is, ledger_is, ordinal_is, producer_is, consumer_is, gone_is, authors_is, retention_is, log_is, long, producers_is, members_is, all)
