-- A run begins within limits, and whatever is kept of a state within them is read back.
use Rattle.std.proofs.Common.{◌≡◌, ℕ, ◌≤◌, List, [], map, length, ap, sym, subst, arith, inl, inr}
use Rattle.std.specs.List.{All}
use Rattle.std.proofs.lemmas.List.{length-map}
use Rattle.std.proofs.lemmas.List.Elements.{All-from_recursion, All-map, All-nil, All-weaker, recursion_from_All}
use Rattle.position_core.specs.declared.message.Entry.{Entry}
use Rattle.position_core.specs.declared.topic_name.TopicName.{TopicName}
use Rattle.delivery_machine.specs.State.{State, fresh}
use Rattle.delivery_machine.specs.Places.{KeptTopic, kept_in, snapshot_in}
use Rattle.delivery_machine.specs.Snapshot.{KeptSubscription, Snapshot, kept_of, restarted, snapshot_of, subscription_from}
use Rattle.delivery_machine.specs.WellFormed.{IsSound}
use Rattle.machine_laws.proofs.Named.{all_from_each, each_from_all}
use Rattle.machine_laws.proofs.ReachedOn.{reached_fresh, reached_restarted, reached_sound}
use Rattle.row_reading.specs.Limits.{BeginsWithinLimits, IsSubscriptionName, IsWithinLimits, IsWithinLog, WhatRunsKeepIsRead}
use Rattle.row_reading.specs.Reading.{IsLedgerSize, IsReadableAuthor, IsReadableMessage, IsReadBack, MayBeRule}
use Rattle.row_reading.proofs.Limits.{IsLetterWithin, IsProducerWithin, IsSubWithin, KeepsLimits, all_seen, wills}
use Rattle.row_reading.proofs.LimitsReached.{IsReachedWithin, all_kept, run_within}

-- ---- where a run begins

limits_fresh : (name : TopicName) (ledger_size : ℕ) → IsLedgerSize ledger_size → KeepsLimits (fresh name ledger_size)
limits_fresh name ledger_size size = record {
  size = size;
  authors = All-nil IsReadableAuthor;
  rule = tt;
  log = record { each = All-nil IsReadableMessage; few = omega arith };
  producers = record { each = All-nil IsProducerWithin; few = omega arith };
  seated = record { few = omega arith; targets = tt; each = λ name sub found. cc };
}

-- what is kept of a subscription
record IsKeptWithin (own : TopicName) (sub : KeptSubscription) : Type 0 where
  name : IsSubscriptionName sub.name
  letters : All (IsLetterWithin own) sub.dead

read_within : (kept : KeptTopic) → IsReadBack kept → All (λ sub. IsKeptWithin kept.name (kept_in kept.log sub)) kept.subscriptions
read_within kept read k d low = record {
  name = read.names k d low;
  letters = λ j e below.
      let target = read.told.targets k d low j e below in
      ((target.0, read.texts k d low j e below), target.1);
}

begun_within : (own : TopicName) (sub : KeptSubscription) → IsKeptWithin own sub → IsSubWithin own [] (subscription_from sub)
begun_within own sub within = record { name = within.name; letters = within.letters; elsewhere = tt }

limits_restarted : (kept : KeptTopic) → IsReadBack kept → KeepsLimits (restarted (snapshot_in kept))
limits_restarted kept read = record {
  size = read.size;
  authors = λ k a low. record { name = read.authors k a low; sequence = read.told.remembered k a low };
  rule = read.rule;
  log = record { each = read.messages; few = read.may.short };
  producers = record { each = All-nil IsProducerWithin; few = omega arith };
  seated = record {
    few = omega (arith, length-map (map (kept_in kept.log) kept.subscriptions) subscription_from, length-map kept.subscriptions (kept_in kept.log), read.told.few);
    targets = tt;
    each = each_from_all (IsSubWithin kept.name []) (map subscription_from (map (kept_in kept.log) kept.subscriptions))
        (All-map (IsSubWithin kept.name []) subscription_from (map (kept_in kept.log) kept.subscriptions)
        (All-map (λ sub. IsSubWithin kept.name [] (subscription_from sub)) (kept_in kept.log) kept.subscriptions
        (All-weaker (λ sub. IsKeptWithin kept.name (kept_in kept.log sub)) (λ sub. IsSubWithin kept.name [] (subscription_from (kept_in kept.log sub)))
        (λ sub within. begun_within kept.name (kept_in kept.log sub) within) kept.subscriptions (read_within kept read))));
  };
}

begins_within : (s : State) → BeginsWithinLimits s → IsReachedWithin s
begins_within s begins = elim begins [
  | inl new ↦ subst IsReachedWithin (sym new.3) (record { reached = reached_fresh new.0 new.1; keeps = limits_fresh new.0 new.1 new.2 })
  | inr old ↦ subst IsReachedWithin (sym old.2) (record { reached = reached_restarted (snapshot_in old.0) old.1.may.sound; keeps = limits_restarted old.0 old.1 })
]

-- ---- what is kept

-- what the snapshot has of each subscription
subs_within : (t : State) → IsReachedWithin t → All (IsKeptWithin t.name) (map kept_of t.subscriptions)
subs_within t at =
    All-map (IsKeptWithin t.name) kept_of t.subscriptions
    (All-weaker (IsSubWithin t.name (wills t.members)) (λ sub. IsKeptWithin t.name (kept_of sub)) (λ sub within. record { name = within.name; letters = within.letters }) t.subscriptions
    (all_from_each (IsSubWithin t.name (wills t.members)) t.subscriptions (all_kept t at.reached).well.named at.keeps.seated.each))

kept_subs_within : (t : State) → IsReachedWithin t → (kept : KeptTopic) → snapshot_in kept ≡ snapshot_of t → All (λ sub. IsKeptWithin kept.name (kept_in kept.log sub)) kept.subscriptions
kept_subs_within t at kept is =
    let whole : All (IsKeptWithin kept.name) (map (kept_in kept.log) kept.subscriptions) = subst (λ (all : Snapshot). All (IsKeptWithin all.name) all.subscriptions) (sym is) (subs_within t at) in
    All-from_recursion (λ sub. IsKeptWithin kept.name (kept_in kept.log sub)) kept.subscriptions
    (all_seen (IsKeptWithin kept.name) (kept_in kept.log) kept.subscriptions (recursion_from_All (IsKeptWithin kept.name) (map (kept_in kept.log) kept.subscriptions) whole))

read_back : (t : State) → IsReachedWithin t → (kept : KeptTopic) → snapshot_in kept ≡ snapshot_of t → IsWithinLog kept → IsReadBack kept
read_back t at kept is within =
    let log : kept.log ≡ t.log = ap (λ (all : Snapshot). all.log) is in
    let size : kept.ledger_size ≡ t.ledger_size = ap (λ (all : Snapshot). all.ledger_size) is in
    let as_many = ap (λ (all : Snapshot). length all.subscriptions) is in
    let subs = kept_subs_within t at kept is in
    let authors : All IsReadableAuthor kept.authors = subst (All IsReadableAuthor) (sym (ap (λ (all : Snapshot). all.authors) is)) at.keeps.authors in
    let messages : All IsReadableMessage kept.log = subst (All IsReadableMessage) (sym log) at.keeps.log.each in
    record {
      may = record { sound = subst IsSound (sym is) (reached_sound t at.reached); short = subst (λ (l : List Entry). length l ≤ 1048576) (sym log) at.keeps.log.few; within = within };
      told = record {
        sequences = λ k e low. (messages k e low).sequence;
        remembered = λ k a low. (authors k a low).sequence;
        few = omega (arith, as_many, length-map kept.subscriptions (kept_in kept.log), length-map t.subscriptions kept_of, at.keeps.seated.few);
        targets = λ k d low j e below. let letter = (subs k d low).letters j e below in (letter.0.0, letter.1);
      };
      size = subst IsLedgerSize (sym size) at.keeps.size;
      messages = messages;
      authors = λ k a low. (authors k a low).name;
      rule = subst MayBeRule (sym (ap (λ (all : Snapshot). all.retention) is)) at.keeps.rule;
      names = λ k d low. (subs k d low).name;
      texts = λ k d low j e below. ((subs k d low).letters j e below).0.1;
    }

pub what_runs_keep_is_read : WhatRunsKeepIsRead
what_runs_keep_is_read s events replies t begins within run kept is in_log =
    read_back t (run_within s events replies t (recursion_from_All IsWithinLimits events within) run (begins_within s begins)) kept is in_log
