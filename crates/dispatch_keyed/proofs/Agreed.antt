-- The tables agree with the topic, and what follows from that.
use Rattle.std.proofs.Common.{◌≡◌, ◌≢◌, ℕ, ◌+◌, ◌-◌, ◌^◌, ◌<◌, ◌≤◌, Bool, true, false, List, [], ◌∷◌, length, Option, Some, None, inl, inr, refl, sym, ap, ◌∙◌, subst, arith, true≢false}
use Rattle.std.specs.Prelude.{◌==◌, ◌&&◌, nat_lt, is_some}
use Rattle.std.specs.Ordering.{nat_cmp}
use Rattle.std.specs.FinMap as map_of
use Rattle.std.specs.Option.{option_map_or, option_and_then}
use Rattle.std.specs.Map.{lookup}
use Rattle.std.specs.BTreeMap.{is_at}
use Rattle.std.proofs.lemmas.Bool.{cases_eq, cases_lt, eq-eqb, lt-ltb, le-ltb, and_from}
use Rattle.std.proofs.lemmas.List.{length-take, length-take-le, length-append}
use Rattle.std.proofs.lemmas.Option.{same_Some, none-some}
use Rattle.position_core.specs.declared.kind.Kind.{Kind}
use Rattle.position_core.specs.declared.kind.Kind.TheVariants.{Exclusive, Failover, Shared, KeyShared}
use Rattle.position_core.specs.Kind.{same_kind}
use Rattle.murmur_core.proofs.Keys.{sticky_hash-lt}
use Rattle.number_sets.specs.Places.{IsNext}
use Rattle.delivery_machine.specs.State.{State, Subscription}
use Rattle.delivery_machine.specs.Words.{visible}
use Rattle.delivery_machine.specs.Shares.{owner_of}
use Rattle.dispatch_core.specs.Log.{waits_at, holder_at, key_at}
use Rattle.dispatch_core.specs.Offers.{IsGoodOffer}
use Rattle.dispatch_core.specs.Changes.{OnlyLineChanges, Kept, Appended, TakenBack}
use Rattle.hash_rows.specs.declared.row.Row.{Row}
use Rattle.hash_rows.specs.Hashes.{hash_at}
use Rattle.hash_rows.specs.Rows.{is_in, waits_in, holds_in}
use Rattle.hash_rows.specs.Standing.{Found, is_placed, waits_there, holds_there, keeper_of, AllPlacedBefore, SameKnowledge, Stands, Added}
use Rattle.hash_rows.specs.Knowing.{Knows, IsRowOf, IsFirstOf, IsFreeRow, KeeperIsRight, WaitBefore, is_read}
use Rattle.hash_rows.proofs.Moving.{held_read, waiting_read, row_stays, known_still, hash_of_log, hash_in_front, seen_still, unsent_behind, seen_kept, knows_kept, knows_appended}
use Rattle.hash_rows.proofs.Changed.{knows_same, row_stands, knows_past, knows_past_all, row_read}
use Rattle.dispatch_keyed.specs.Hashes.{IsRoomyOwner, NoneFreeBefore}
use Rattle.dispatch_keyed.specs.Owning.{owners_in}
use Rattle.dispatch_keyed.specs.Tables.{row_at}
use Rattle.dispatch_keyed.specs.Agreeing.{Agrees, IsStuck, IsNews}
use Rattle.dispatch_keyed.specs.declared.keyed.Keyed.{Keyed}
use Rattle.dispatch_keyed.proofs.Owning.{same_owners, shares_in}
use Rattle.dispatch_keyed.proofs.Draining.{still, at_owner, held_by_owner}
use Rattle.dispatch_keyed.proofs.Firsts.{rowless, no_first}
use Rattle.dispatch_keyed.proofs.Owners.{free_for, owner_number}
use Rattle.dispatch_keyed.proofs.Serving.{good_first}

abbrev pub row_of : Keyed → ℕ → Found
row_of d h = row_at d.rows h

abbrev pub number_of : Keyed → ℕ → Option ℕ
number_of d h = map_of.get d.firsts.numbers h

hash_within : (s : State) (i : ℕ) → hash_at s i < 2 ^ 16
hash_within s i = sticky_hash-lt (key_at s i)

-- what is known of another hash, read as far
known_as : (d e : Keyed) (h read : ℕ) (s : State) (sub : Subscription) → row_of e h ≡ row_of d h → number_of e h ≡ number_of d h → e.read ≡ read → Knows (row_of d h) (number_of d h) h read s sub → Knows (row_of e h) (number_of e h) h e.read s sub
known_as d e h read s sub row number same known =
    subst (λ (n : ℕ). Knows (row_of e h) (number_of e h) h n s sub) (sym same)
    (subst (λ (o : Found). Knows o (number_of e h) h read s sub) (sym row)
    (subst (λ (o : Option ℕ). Knows (row_of d h) o h read s sub) (sym number) known))

-- ---- offers

module _ (d : Keyed) (s : State) (sub : Subscription) (agreed : Agrees d s sub) where
  visible_within : length (visible s) ≤ length s.log
  visible_within = omega (arith, length-take s.durable s.log)

  in_row : (k h : ℕ) → h < 2 ^ 16 → k < d.read → hash_at s k ≡ h → waits_at s sub k ≡ true → waits_there (row_of d h) k ≡ true
  in_row k h within below is waits =
      (agreed.hashes h within).row.waits k
      ∙ and_from (is_read s h d.read k) (waits_at s sub k)
      (and_from (nat_lt k d.read) (hash_at s k == h) (lt-ltb k d.read below) (eq-eqb (hash_at s k) h is)) waits

  module _ (all_read : d.sent ≤ d.read) where
    pub first_is_good : (h n c : ℕ) → h < 2 ^ 16 → number_of d h ≡ Some n → IsRoomyOwner s sub h c → IsGoodOffer s sub (record { index = n; consumer = c })
    first_is_good h n c within is roomy =
        good_first s sub n c agreed.kind (
          record { seen = omega (arith, at.0, agreed.seen); waits = at.2 },
          λ k below ready same. omega (arith, below, first.0.least k (omega arith) (in_row k h within (omega (arith, below, at.0)) (same ∙ at.1) ready.waits)),
        )
        (free_for s sub (hash_at s n) c (subst (λ (x : ℕ). IsRoomyOwner s sub x c) (sym at.1) roomy)
        (still s sub (hash_at s n) c (λ i _. at_owner s sub (hash_at s n) c i (λ holder same held. nobody_else i holder (same ∙ at.1) held))))
      where
        known : Knows (row_of d h) (number_of d h) h d.read s sub
        known = agreed.hashes h within

        first : IsNext (waits_there (row_of d h)) 0 n × IsFreeRow (row_of d h) (owner_of sub.shares h) s sub
        first = known.first.some n is

        at : (n < d.read) × (hash_at s n ≡ h) × (waits_at s sub n ≡ true)
        at = waiting_read (row_of d h) h d.read s sub n known.row first.0.is_in

        owner : first.1.0 ≡ c
        owner = same_Some _ _ (sym first.1.1 ∙ roomy.4)

        nobody_else : (i holder : ℕ) → hash_at s i ≡ h → holder_at s sub i ≡ Some holder → holder ≡ c
        nobody_else i holder same held = elim (cases_lt i d.read) [
          | inl below ↦
              let there : holds_there (row_of d h) i ≡ true =
              known.row.holds i
              ∙ and_from (is_read s h d.read i) (is_some (holder_at s sub i))
              (and_from (nat_lt i d.read) (hash_at s i == h) (lt-ltb i d.read below) (eq-eqb (hash_at s i) h same)) (ap (λ (o : Option ℕ). is_some o) held) in
              same_Some holder c (sym held ∙ first.1.2 i there ∙ ap Some owner)
          | inr past ↦ absurd (none-some holder (sym (agreed.unsent i past (omega (arith, past, all_read))) ∙ held))
        ]

    pub nothing_free : ((h : ℕ) → h < 2 ^ 16 → IsStuck d s sub h) → NoneFreeBefore s sub d.read
    nothing_free stuck k below ready m take = by (number_of d (hash_at s k)) refl
      where
        known : Knows (row_of d (hash_at s k)) (number_of d (hash_at s k)) (hash_at s k) d.read s sub
        known = agreed.hashes (hash_at s k) (hash_within s k)

        free : IsFreeRow (row_of d (hash_at s k)) (owner_of sub.shares (hash_at s k)) s sub
        free = (
          m.number,
          owner_number s sub (hash_at s k) m take.owner,
          λ i held.
              let at = held_read (row_of d (hash_at s k)) (hash_at s k) d.read s sub i known.row held in
              held_by_owner s sub (hash_at s k) m.number i take.still (omega (arith, at.0, agreed.seen, visible_within)) at.1 at.2,
        )

        by : (o : Option ℕ) → number_of d (hash_at s k) ≡ o → ⊥
        by (Some n) is = stuck (hash_at s k) (hash_within s k) n is m take.owner take.room
        by None is =
            true≢false (sym (in_row k (hash_at s k) (hash_within s k) below refl ready.waits) ∙ known.first.none is free k (omega arith))

-- ---- what is told

module _ (d : Keyed) (s : State) (sub : Subscription) (t : State) (new : Subscription) (agreed : Agrees d s sub) where
  log_within : length (visible s) ≤ length s.log
  log_within = omega (arith, length-take s.durable s.log)

  pub agrees_kept : Kept s sub t new → Agrees d t new
  agrees_kept change = record {
    kind = change.kind ∙ agreed.kind;
    owners = same_owners s sub t new d.owners agreed.owners change.shares change.line;
    seen = seen_kept d.read s sub t new agreed.seen change;
    small = agreed.small;
    unsent = λ i read sent. (change.messages i).holder ∙ agreed.unsent i read sent;
    hashes = λ h within. knows_kept (row_of d h) (number_of d h) h d.read s sub t new (agreed.hashes h within) change;
  }

  pub agrees_appended : Appended s sub t new → Agrees d t new
  agrees_appended change = record {
    kind = change.kind ∙ agreed.kind;
    owners = same_owners s sub t new d.owners agreed.owners change.shares change.line;
    seen = seen_still d.read s t agreed.seen (omega (arith, change.durable)) (omega (arith, ap length change.log, length-append s.log (change.message ∷ [])));
    small = agreed.small;
    unsent = λ i read sent. elim (cases_lt i (length s.log)) [
      | inl before ↦ (change.others i before).holder ∙ agreed.unsent i read sent
      | inr past ↦ elim (cases_eq i (length s.log)) [
        | inl is ↦ ap (holder_at t new) is ∙ change.holder
        | inr behind ↦ unsent_behind t new i (omega (arith, past, behind, ap length change.log, length-append s.log (change.message ∷ [])))
      ]
    ];
    hashes = λ h within. knows_appended (row_of d h) (number_of d h) h d.read s sub t new (agreed.hashes h within) change (omega (arith, agreed.seen, log_within));
  }

  pub agrees_taken_back : TakenBack s sub t new → Agrees d t new
  agrees_taken_back change =
      let put = change.appended in
      let all : length (visible t) ≡ t.durable = length-take-le t.durable t.log change.unseen in
      let seen : d.read ≤ length (visible t) = omega (arith, agreed.seen, length-take s.durable s.log, put.durable, all) in
      let inside : d.read ≤ length t.log = omega (arith, seen, length-take t.durable t.log) in
      record {
        kind = sym put.kind ∙ agreed.kind;
        owners = same_owners s sub t new d.owners agreed.owners (sym put.shares) (sym put.line);
        seen = seen;
        small = agreed.small;
        unsent = λ i read sent. elim (cases_lt i (length t.log)) [
          | inl before ↦ sym (put.others i before).holder ∙ agreed.unsent i read sent
          | inr past ↦ unsent_behind t new i past
        ];
        hashes = λ h within.
            let known = agreed.hashes h within in
            known_still (row_of d h) h d.read s sub t new
            (λ i below. sym (hash_in_front t s put.message i put.log (omega (arith, below, inside))))
            (λ i below _. let was = put.others i (omega (arith, below, inside)) in record { waits = sym was.waits; holder = sym was.holder })
            known.row (number_of d h) (ap (λ shares. owner_of shares h) (sym put.shares)) known.first;
      }

-- ---- a change of one message

module _ (d e : Keyed) (index hash : ℕ) (wait : Bool) (holder : Option ℕ) (s : State) (sub : Subscription) (t : State) (new : Subscription) (news : IsNews d index wait holder s sub t new) (agreed : Agrees d s sub) (is : hash ≡ hash_at t index) where
  same_hash : hash_at s index ≡ hash
  same_hash = sym (hash_of_log s t index news.stays.log.log) ∙ sym is

  hash_here : hash < 2 ^ 16
  hash_here = subst (λ (h : ℕ). h < 2 ^ 16) (sym is) (hash_within t index)

  pub agrees_changed :
      e.owners ≡ d.owners →
      e.read ≡ d.read →
      e.sent ≡ d.sent →
      ((h : ℕ) → h ≢ hash → row_of e h ≡ row_of d h) →
      Stands index wait holder (row_of d hash) (row_of e hash) →
      ((h : ℕ) → h ≢ hash → number_of e h ≡ number_of d h) →
      (KeeperIsRight (row_of e hash) t new → WaitBefore (row_of e hash) (2 ^ 32 - 1) → IsFirstOf (row_of e hash) (number_of e hash) (owner_of e.owners.shares hash) t new) →
      Agrees e t new
  agrees_changed owners read sent others here others_first first = record {
    kind = news.stays.log.kind ∙ agreed.kind;
    owners = owners ∙ same_owners s sub t new d.owners agreed.owners news.stays.shares news.stays.line;
    seen = seen_still e.read s t (omega (arith, read, agreed.seen)) (omega (arith, news.stays.log.durable)) (omega (arith, ap length news.stays.log.log));
    small = omega (arith, read, agreed.small);
    unsent = λ i past behind. elim (cases_eq i index) [
      | inl same ↦ ap (holder_at t new) same ∙ news.holder ∙ news.unsent (omega (arith, past, read, same)) (omega (arith, behind, sent, same))
      | inr other ↦ (news.stays.others i other).holder ∙ agreed.unsent i (omega (arith, past, read)) (omega (arith, behind, sent))
    ];
    hashes = λ h within. elim (cases_eq h hash) [
      | inl same ↦ subst (λ (k : ℕ). Knows (row_of e k) (number_of e k) k e.read t new) (sym same) at_hash
      | inr other ↦
          let known = agreed.hashes h within in
          subst (λ (n : ℕ). Knows (row_of e h) (number_of e h) h n t new) (sym read)
          (subst (λ (o : Found). Knows o (number_of e h) h d.read t new) (sym (others h other))
          (subst (λ (o : Option ℕ). Knows (row_of d h) o h d.read t new) (sym (others_first h other))
          (known_still (row_of d h) h d.read s sub t new (λ i _. hash_of_log s t i news.stays.log.log)
          (λ i _ at. news.stays.others i (λ same. other (sym at ∙ ap (hash_at s) same ∙ same_hash)))
          known.row (number_of d h) (ap (λ shares. owner_of shares h) news.stays.shares) known.first)))
    ];
  }
    where
      row_now : IsRowOf (row_of e hash) hash d.read t new
      row_now =
          row_stands (row_of d hash) (row_of e hash) hash d.read index wait holder s sub t new (agreed.hashes hash hash_here).row here same_hash news.stays news.waits news.holder news.was

      at_hash : Knows (row_of e hash) (number_of e hash) hash e.read t new
      at_hash = subst (λ (n : ℕ). Knows (row_of e hash) (number_of e hash) hash n t new) (sym read) (record {
        row = row_now;
        first = subst (λ shares. IsFirstOf (row_of e hash) (number_of e hash) (owner_of shares hash) t new) (shares_in (owners ∙ agreed.owners) ∙ sym news.stays.shares)
            (first row_now.keeper (λ i waits. omega (arith, (waiting_read (row_of e hash) hash d.read t new i row_now waits).0, agreed.small)));
      })

-- at a message that was not read
pub agrees_unread : (d : Keyed) (index : ℕ) (wait : Bool) (holder : Option ℕ) (s : State) (sub : Subscription) (t : State) (new : Subscription) → IsNews d index wait holder s sub t new → Agrees d s sub → d.read ≤ index → Agrees d t new
agrees_unread d index wait holder s sub t new news agreed unread = record {
  kind = news.stays.log.kind ∙ agreed.kind;
  owners = same_owners s sub t new d.owners agreed.owners news.stays.shares news.stays.line;
  seen = seen_still d.read s t agreed.seen (omega (arith, news.stays.log.durable)) (omega (arith, ap length news.stays.log.log));
  small = agreed.small;
  unsent = λ i past behind. elim (cases_eq i index) [
    | inl same ↦ ap (holder_at t new) same ∙ news.holder ∙ news.unsent unread (omega (arith, behind, same))
    | inr other ↦ (news.stays.others i other).holder ∙ agreed.unsent i past behind
  ];
  hashes = λ h within.
      let known = agreed.hashes h within in
      known_still (row_of d h) h d.read s sub t new (λ i _. hash_of_log s t i news.stays.log.log)
      (λ i below _. news.stays.others i (λ same. omega (arith, same, below, unread)))
      known.row (number_of d h) (ap (λ shares. owner_of shares h) news.stays.shares) known.first;
}

-- ---- a message that was sent

-- it is known from another index on that nothing is pending
pub agrees_from : (d e : Keyed) (s : State) (sub : Subscription) → Agrees d s sub → e.owners ≡ d.owners → e.read ≡ d.read → ((i : ℕ) → d.read ≤ i → e.sent ≤ i → holder_at s sub i ≡ None) → ((h : ℕ) → row_of e h ≡ row_of d h) → ((h : ℕ) → number_of e h ≡ number_of d h) → Agrees e s sub
agrees_from d e s sub agreed owners read unsent rows numbers = record {
  kind = agreed.kind;
  owners = owners ∙ agreed.owners;
  seen = omega (arith, read, agreed.seen);
  small = omega (arith, read, agreed.small);
  unsent = λ i past behind. unsent i (omega (arith, past, read)) behind;
  hashes = λ h within. known_as d e h d.read s sub (rows h) (numbers h) read (agreed.hashes h within);
}

-- from a later index on nothing is pending, either
pub agrees_sooner : (d e : Keyed) (s : State) (sub : Subscription) → Agrees d s sub → e.owners ≡ d.owners → e.read ≡ d.read → d.sent ≤ e.sent → ((h : ℕ) → row_of e h ≡ row_of d h) → ((h : ℕ) → number_of e h ≡ number_of d h) → Agrees e s sub
agrees_sooner d e s sub agreed owners read sent rows numbers =
    agrees_from d e s sub agreed owners read (λ i past behind. agreed.unsent i past (omega (arith, behind, sent))) rows numbers

-- nor from the index before, where nothing is pending there
pub agrees_back : (d e : Keyed) (s : State) (sub : Subscription) → Agrees d s sub → e.owners ≡ d.owners → e.read ≡ d.read → e.sent + 1 ≡ d.sent → holder_at s sub e.sent ≡ None → ((h : ℕ) → row_of e h ≡ row_of d h) → ((h : ℕ) → number_of e h ≡ number_of d h) → Agrees e s sub
agrees_back d e s sub agreed owners read sent idle rows numbers =
    agrees_from d e s sub agreed owners read
    (λ i past behind. elim (cases_eq i e.sent) [
      | inl here ↦ ap (holder_at s sub) here ∙ idle
      | inr other ↦ agreed.unsent i past (omega (arith, behind, other, sent))
    ])
    rows numbers

pub seen_in_both : (index : ℕ) (s t : State) → t.log ≡ s.log → t.durable ≡ s.durable → index < length (visible s) → index < length (visible t)
seen_in_both index s t log durable seen = omega (arith, seen, ap length log, durable, length-take s.durable s.log, length-take t.durable t.log)

-- ---- members

pub agrees_shared : (d e : Keyed) (s : State) (sub : Subscription) (t : State) (new : Subscription) → OnlyLineChanges s sub t new → Agrees d s sub → e.owners ≡ owners_in t new → e.read ≡ d.read → e.sent ≡ d.sent → ((h : ℕ) → row_of e h ≡ row_of d h) → ((h : ℕ) → h < 2 ^ 16 → KeeperIsRight (row_of e h) t new → WaitBefore (row_of e h) (2 ^ 32 - 1) → ((row_of e h).row ≡ None → number_of d h ≡ None) → IsFirstOf (row_of e h) (number_of e h) (owner_of e.owners.shares h) t new) → Agrees e t new
agrees_shared d e s sub t new change agreed owners read sent rows firsts = record {
  kind = change.log.kind ∙ agreed.kind;
  owners = owners;
  seen = seen_still e.read s t (omega (arith, read, agreed.seen)) (omega (arith, change.log.durable)) (omega (arith, ap length change.log.log));
  small = omega (arith, read, agreed.small);
  unsent = λ i past behind. (change.messages i).holder ∙ agreed.unsent i (omega (arith, past, read)) (omega (arith, behind, sent));
  hashes = λ h within.
      let known = agreed.hashes h within in
      let row : IsRowOf (row_of e h) h d.read t new =
      subst (λ (o : Found). IsRowOf o h d.read t new) (sym (rows h))
      (row_stays (row_of d h) h d.read s sub t new (λ i _. hash_of_log s t i change.log.log) (λ i _ _. change.messages i) known.row) in
      subst (λ (n : ℕ). Knows (row_of e h) (number_of e h) h n t new) (sym read) (record {
        row = row;
        first = subst (λ shares. IsFirstOf (row_of e h) (number_of e h) (owner_of shares h) t new) (shares_in owners)
            (firsts h within row.keeper (λ i waits. omega (arith, (waiting_read (row_of e h) h d.read t new i row waits).0, agreed.small))
            (λ none. no_first (row_of d h) (number_of d h) (owner_of sub.shares h) s sub (ap (λ (o : Found). o.row) (sym (rows h)) ∙ none) known.first));
      });
}

-- ---- from nothing

pub key_shared : (kind : Kind) → same_kind kind KeyShared ≡ true → kind ≡ KeyShared
key_shared KeyShared _ = refl
key_shared Exclusive never = absurd (true≢false (sym never))
key_shared Failover never = absurd (true≢false (sym never))
key_shared Shared never = absurd (true≢false (sym never))

empty_row : (o : Found) (hash : ℕ) (s : State) (sub : Subscription) → o.row ≡ None → IsRowOf o hash 0 s sub
unfolding is_placed waits_there holds_there keeper_of
empty_row o hash s sub none = record {
  places = λ i placed. absurd (true≢false (sym placed ∙ ap (λ (row : Option Row). option_map_or (λ r. is_in r (o.base + i)) row false) none));
  waits = λ i.
      ap (λ (row : Option Row). option_map_or (λ r. waits_in r (o.base + i)) row false) none
      ∙ sym (ap (λ (b : Bool). (b && hash_at s i == hash) && waits_at s sub i) (le-ltb i 0 (omega arith)));
  holds = λ i.
      ap (λ (row : Option Row). option_map_or (λ r. holds_in r (o.base + i)) row false) none
      ∙ sym (ap (λ (b : Bool). (b && hash_at s i == hash) && is_some (holder_at s sub i)) (le-ltb i 0 (omega arith)));
  keeper = λ c kept. absurd (none-some c (sym (ap (λ (row : Option Row). option_and_then (λ r. r.keeper) row) none) ∙ kept));
}

pub agrees_empty : (d : Keyed) (s : State) (sub : Subscription) → sub.kind ≡ KeyShared → d.owners ≡ owners_in s sub → d.read ≡ 0 → ((i : ℕ) → d.sent ≤ i → holder_at s sub i ≡ None) → d.rows.rows.entries ≡ [] → d.firsts.numbers ≡ map_of.empty → Agrees d s sub
agrees_empty d s sub kind owners read unsent rows numbers = record {
  kind = kind;
  owners = owners;
  seen = omega (arith, read);
  small = omega (arith, read);
  unsent = λ i _ behind. unsent i behind;
  hashes = λ h _.
      let none : (row_of d h).row ≡ None = ap (λ (es : List (ℕ × Row)). lookup (is_at (nat_cmp h)) es) rows in
      let first : number_of d h ≡ None = ap (λ (m : map_of.FinMap nat_cmp ℕ). map_of.get m h) numbers ∙ map_of.get-empty nat_cmp h in
      subst (λ (n : ℕ). Knows (row_of d h) (number_of d h) h n s sub) (sym read) (record {
        row = empty_row (row_of d h) h s sub none;
        first = subst (λ (o : Option ℕ). IsFirstOf (row_of d h) o (owner_of sub.shares h) s sub) (sym first) (rowless (row_of d h) (owner_of sub.shares h) s sub none);
      });
}

-- ---- reading

-- as much is known as before
pub agrees_same : (d e : Keyed) (hash : ℕ) (s : State) (sub : Subscription) → Agrees d s sub → e.owners ≡ d.owners → e.read ≡ d.read → e.sent ≡ d.sent → ((h : ℕ) → h ≢ hash → row_of e h ≡ row_of d h) → SameKnowledge (row_of d hash) (row_of e hash) → ((h : ℕ) → number_of e h ≡ number_of d h) → Agrees e s sub
agrees_same d e hash s sub agreed owners read sent others here numbers = record {
  kind = agreed.kind;
  owners = owners ∙ agreed.owners;
  seen = omega (arith, read, agreed.seen);
  small = omega (arith, read, agreed.small);
  unsent = λ i past behind. agreed.unsent i (omega (arith, past, read)) (omega (arith, behind, sent));
  hashes = λ h within. elim (cases_eq h hash) [
    | inl same ↦
        subst (λ (n : ℕ). Knows (row_of e h) (number_of e h) h n s sub) (sym read)
        (subst (λ (o : Option ℕ). Knows (row_of e h) o h d.read s sub) (sym (numbers h))
        (knows_same (row_of d h) (row_of e h) (number_of d h) h d.read s sub (subst (λ (k : ℕ). SameKnowledge (row_of d k) (row_of e k)) (sym same) here) (agreed.hashes h within)))
    | inr other ↦ known_as d e h d.read s sub (others h other) (numbers h) read (agreed.hashes h within)
  ];
}

-- the message was neither waiting nor pending
pub agrees_past : (d e : Keyed) (s : State) (sub : Subscription) → Agrees d s sub → e.owners ≡ d.owners → e.read ≡ d.read + 1 → e.sent ≡ d.sent → ((h : ℕ) → row_of e h ≡ row_of d h) → ((h : ℕ) → number_of e h ≡ number_of d h) → d.read < length (visible s) → d.read < 2 ^ 32 - 1 → waits_at s sub d.read ≡ false → holder_at s sub d.read ≡ None → Agrees e s sub
agrees_past d e s sub agreed owners read sent rows numbers seen small waits holder = record {
  kind = agreed.kind;
  owners = owners ∙ agreed.owners;
  seen = omega (arith, read, seen);
  small = omega (arith, read, small);
  unsent = λ i past behind. agreed.unsent i (omega (arith, past, read)) (omega (arith, behind, sent));
  hashes = λ h within.
      known_as d e h (d.read + 1) s sub (rows h) (numbers h) read
      (knows_past (row_of d h) (number_of d h) h d.read s sub (agreed.hashes h within) (inr (waits, holder)));
}

-- none of the messages up to the index was waiting or pending
pub agrees_past_all : (d e : Keyed) (s : State) (sub : Subscription) → Agrees d s sub → d.sent ≤ d.read → e.owners ≡ d.owners → d.read ≤ e.read → e.sent ≡ d.sent → ((h : ℕ) → row_of e h ≡ row_of d h) → ((h : ℕ) → number_of e h ≡ number_of d h) → e.read ≤ length (visible s) → e.read ≤ 2 ^ 32 - 1 → ((k : ℕ) → d.read ≤ k → k < e.read → waits_at s sub k ≡ false) → Agrees e s sub
agrees_past_all d e s sub agreed all owners read sent rows numbers seen small none =
    let far : d.read + (e.read - d.read) ≡ e.read = omega (arith, read) in
    record {
      kind = agreed.kind;
      owners = owners ∙ agreed.owners;
      seen = seen;
      small = small;
      unsent = λ i past behind. agreed.unsent i (omega (arith, past, read)) (omega (arith, behind, sent));
      hashes = λ h within.
          known_as d e h (d.read + (e.read - d.read)) s sub (rows h) (numbers h) (sym far)
          (knows_past_all (row_of d h) (number_of d h) h d.read (e.read - d.read) s sub (agreed.hashes h within)
          (λ k after below. (none k after (omega (arith, below, far)), agreed.unsent k after (omega (arith, after, all)))));
    }

-- the message was put into its row
module _ (d e : Keyed) (made pushed : Found) (hash : ℕ) (wait : Bool) (holder : Option ℕ) (s : State) (sub : Subscription) (agreed : Agrees d s sub) (is : hash ≡ hash_at s d.read) (wait_is : wait ≡ waits_at s sub d.read) (holder_is : holder ≡ holder_at s sub d.read) where
  pub agrees_read : e.owners ≡ d.owners → e.read ≡ d.read + 1 → e.sent ≡ d.sent → ((h : ℕ) → h ≢ hash → row_of e h ≡ row_of d h) → SameKnowledge (row_of d hash) made → (AllPlacedBefore made d.read → Added d.read made pushed) → Stands d.read wait holder pushed (row_of e hash) → ((h : ℕ) → h ≢ hash → number_of e h ≡ number_of d h) → (KeeperIsRight (row_of e hash) s sub → WaitBefore (row_of e hash) (2 ^ 32 - 1) → IsFirstOf (row_of e hash) (number_of e hash) (owner_of e.owners.shares hash) s sub) → d.read < length (visible s) → d.read < 2 ^ 32 - 1 → Agrees e s sub
  agrees_read owners read sent others same added stands others_first first seen small = record {
    kind = agreed.kind;
    owners = owners ∙ agreed.owners;
    seen = omega (arith, read, seen);
    small = omega (arith, read, small);
    unsent = λ i past behind. agreed.unsent i (omega (arith, past, read)) (omega (arith, behind, sent));
    hashes = λ h within. elim (cases_eq h hash) [
      | inl here ↦ subst (λ (k : ℕ). Knows (row_of e k) (number_of e k) k e.read s sub) (sym here) at_hash
      | inr other ↦
          known_as d e h (d.read + 1) s sub (others h other) (others_first h other) read
          (knows_past (row_of d h) (number_of d h) h d.read s sub (agreed.hashes h within) (inl (λ at. other (sym at ∙ sym is))))
    ];
  }
    where
      was : Knows made (number_of d hash) hash d.read s sub
      was = knows_same (row_of d hash) made (number_of d hash) hash d.read s sub same (agreed.hashes hash (subst (λ (h : ℕ). h < 2 ^ 16) (sym is) (hash_within s d.read)))

      row_now : IsRowOf (row_of e hash) hash (d.read + 1) s sub
      row_now = row_read made pushed (row_of e hash) hash d.read wait holder s sub was.row (added was.row.places) stands (sym is) wait_is holder_is

      at_hash : Knows (row_of e hash) (number_of e hash) hash e.read s sub
      at_hash = subst (λ (n : ℕ). Knows (row_of e hash) (number_of e hash) hash n s sub) (sym read) (record {
        row = row_now;
        first = subst (λ shares. IsFirstOf (row_of e hash) (number_of e hash) (owner_of shares hash) s sub) (shares_in (owners ∙ agreed.owners))
            (first row_now.keeper (λ i waits. omega (arith, (waiting_read (row_of e hash) hash (d.read + 1) s sub i row_now waits).0, small)));
      })
