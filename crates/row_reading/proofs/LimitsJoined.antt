-- The limits stay where a member joins a subscription, and where one leaves; whatever dies goes elsewhere.
use Rattle.std.proofs.Common.{◌≡◌, ℕ, ◌<◌, List, [], ◌∷◌, ◌++◌, length, Some, None, Option, Bool, true, false, cond, refl, ap, ◌∙◌, sym, subst, arith, true≢false}
use Rattle.std.specs.Prelude.{◌&&◌, nat_le, nat_lt, not, is_some, if◌then◌else◌}
use Rattle.std.specs.List.{AllByRecursion, filter, find, position_or_len}
use Rattle.std.specs.Option.{option_and_then, option_map_or}
use Rattle.std.specs.Ordering.{is_lt}
use Rattle.std.specs.Str.{bytes_eq}
use Rattle.std.specs.FinMap as map_of
use Rattle.std.proofs.lemmas.Bool.Decides.{nat_tests}
use Rattle.std.proofs.lemmas.List.{map-append}
use Rattle.std.proofs.lemmas.List.Elements.{All-contains, All-from_recursion, All-nil}
use Rattle.std.proofs.lemmas.List.Folds.{Any-from_list_any}
use Rattle.position_core.specs.declared.held.Held.{Held}
use Rattle.position_core.specs.declared.kind.Kind.{Kind}
use Rattle.position_core.specs.declared.position.Position.{Position}
use Rattle.position_core.specs.declared.ranges.HashRange.{HashRange}
use Rattle.position_core.specs.declared.topic_name.TopicName.{TopicName}
use Rattle.position_core.specs.declared.fault.Fault.TheVariants.{ConsumerBusy, DeadLetterSelf, HashOverlap, MixedPolicy, TooMany, WrongKind}
use Rattle.position_core.specs.Kind.{is_in_order, same_kind}
use Rattle.position_core.specs.Name.{name_order}
use Rattle.position_core.specs.TopicName.{same_topic}
use Rattle.delivery_machine.specs.State.{Member, State, Subscription}
use Rattle.delivery_machine.specs.Words.{changed, has_kind, has_subscription, is_at, is_member, is_named, members_of, removed}
use Rattle.delivery_machine.specs.Refusals.{subscribing_refused}
use Rattle.delivery_machine.specs.Dying.{dying_at, is_to_die, letter_of}
use Rattle.delivery_machine.specs.Joining.{joined, joining, leaving, new_subscription, placed, with_member, without_member}
use Rattle.delivery_machine.specs.declared.event.Initial.{Initial}
use Rattle.delivery_machine.specs.WellFormed.{AreGiven}
use Rattle.delivery_machine.proofs.Behind.{names_differ, same_name}
use Rattle.delivery_machine.proofs.Deciding.{and_first, and_second, number_is}
use Rattle.delivery_machine.proofs.Firsts.{found_contained, found_passes}
use Rattle.delivery_machine.proofs.Tended.{is_seat, is_seated}
use Rattle.delivery_machine.proofs.Tending.{IsTendedIn}
use Rattle.machine_laws.proofs.WellKept.{numbers_of}
use Rattle.machine_laws.proofs.WellSeated.{found_by_number}
use Rattle.delivery_machine.proofs.EachFirst.{each_changed, each_kept, each_placed}
use Rattle.delivery_machine.proofs.Kept.{kinds_agree, not_refused, not_refused_next}
use Rattle.delivery_machine.proofs.Keyed.{each_key_removed}
use Rattle.row_reading.specs.Limits.{IsSubscriptionName, IsTopic}
use Rattle.row_reading.proofs.Limits.{AreElsewhere, AreSeated, IsLetterWithin, IsSubWithin, KeepsLimits, Will, all_seen, all_with, as_many, dies_into, length_inserted, seated_changed, will_of, wills}

-- ---- joining

-- where nobody is at the subscription of a name, no will is of that name
nobody_there : (n : List ℕ) (members : List Member) → nat_lt 0 (length (filter (is_at n) members)) ≡ false → AllByRecursion (λ w. bytes_eq w.subscription n ≡ false) (wills members)
nobody_there n [] none = tt
nobody_there n (m ∷ members) none = by (is_at n m) refl none (nobody_there n members)
  where
    by : (b : Bool) → is_at n m ≡ b → nat_lt 0 (length (cond b (m ∷ filter (is_at n) members) (filter (is_at n) members))) ≡ false
        → (nat_lt 0 (length (filter (is_at n) members)) ≡ false → AllByRecursion (λ w. bytes_eq w.subscription n ≡ false) (wills members))
        → AllByRecursion (λ w. bytes_eq w.subscription n ≡ false) (wills (m ∷ members))
    by true at none rest = absurd (grind (arith, nat_tests))
    by false elsewhere none rest = (elsewhere, rest none)

none_dies : (own : TopicName) (n : List ℕ) (kind : Kind) (all : List Will) → AllByRecursion (λ w. bytes_eq w.subscription n ≡ false) all → AreElsewhere own n kind all
none_dies own n kind [] nobody = tt
none_dies own n kind (w ∷ all) nobody = (λ at. absurd (true≢false (sym at ∙ nobody.0)), none_dies own n kind all nobody.1)

-- what is known of a member that may join
pub record IsJoin (s : State) (kind : Kind) (m : Member) : Type 0 where
  pub agrees : has_kind s m.subscription kind ≡ false → AllByRecursion (λ w. bytes_eq w.subscription m.subscription ≡ false) (wills s.members)
  pub room : has_subscription s m.subscription ≡ false → length s.subscriptions < 64
  pub elsewhere : dies_into s.name kind (will_of m) ≡ false

pub may_join : (s : State) (kind : Kind) (m : Member) (ranges : Option (List HashRange)) → subscribing_refused s m.subscription kind m.max_redeliver m.dead_topic ranges ≡ None → IsJoin s kind m
may_join s kind m ranges allowed =
    let right = not_refused _ WrongKind _ allowed in
    let after_kind = not_refused_next _ WrongKind _ allowed in
    let after_shares = not_refused_next _ HashOverlap _ (not_refused_next _ MixedPolicy _ (not_refused_next _ ConsumerBusy _ after_kind)) in
    let after_members = not_refused_next _ TooMany _ after_shares in
    let few = not_refused _ TooMany _ after_members in
    let after_counts = not_refused_next _ TooMany _ (not_refused_next _ TooMany _ after_members) in
    record {
      agrees = λ differs. nobody_there m.subscription s.members (alone (nat_lt 0 (length (members_of s m.subscription))) (has_kind s m.subscription kind) right differs);
      room = λ new. fits (length s.subscriptions) (has_subscription s m.subscription) few new;
      elsewhere = not_refused _ DeadLetterSelf _ after_counts;
    }
  where
    alone : (some same : Bool) → (some && not same) ≡ false → same ≡ false → some ≡ false
    alone some false e f = grind (arith, nat_tests)
    alone some true e f = absurd (true≢false f)

    fits : (n : ℕ) (there : Bool) → (nat_le 64 n && not there) ≡ false → there ≡ false → n < 64
    fits n there e f = grind (arith, nat_tests)

module _ (s : State) (kind : Kind) (m : Member) (may : IsJoin s kind m) where
  -- another subscription
  beside : (sub : Subscription) → is_named m.subscription sub ≡ false → IsSubWithin s.name (wills s.members) sub → IsSubWithin s.name (wills s.members ++ will_of m ∷ []) sub
  beside sub other within = record {
    name = within.name;
    letters = within.letters;
    elsewhere = all_with (λ w. bytes_eq w.subscription sub.name ≡ true → dies_into s.name sub.kind w ≡ false) (wills s.members) (will_of m) within.elsewhere
        (λ at. absurd (true≢false (sym at ∙ names_differ sub.name m.subscription other)));
  }

  -- the one that is joined
  its_own : (name : List ℕ) → AreElsewhere s.name name kind (wills s.members) → AreElsewhere s.name name kind (wills s.members ++ will_of m ∷ [])
  its_own name all = all_with (λ w. bytes_eq w.subscription name ≡ true → dies_into s.name kind w ≡ false) (wills s.members) (will_of m) all (λ at. may.elsewhere)

  within_joining : (ranges : Option (List HashRange)) (sub : Subscription) → find (is_named m.subscription) s.subscriptions ≡ Some sub → sub.name ≡ m.subscription → IsSubWithin s.name (wills s.members) sub
      → IsSubWithin s.name (wills s.members ++ will_of m ∷ []) (joining kind ranges m.number sub)
  within_joining ranges sub found named within = record { name = within.name; letters = within.letters; elsewhere = its_own sub.name (by (same_kind sub.kind kind) refl) }
    where
      by : (b : Bool) → same_kind sub.kind kind ≡ b → AreElsewhere s.name sub.name kind (wills s.members)
      by true same = subst (λ (k : Kind). AreElsewhere s.name sub.name k (wills s.members)) (kinds_agree sub.kind kind same) within.elsewhere
      by false other =
          subst (λ (n : List ℕ). AreElsewhere s.name n kind (wills s.members)) (sym named)
          (none_dies s.name m.subscription kind (wills s.members) (may.agrees (ap (λ o. option_map_or (λ sub. same_kind sub.kind kind) o false) found ∙ other)))

  seated_joined : (ranges : Option (List HashRange)) (initial : Initial) → IsSubscriptionName m.subscription → IsTopic m.dead_topic → AreSeated s.name (wills s.members) s.subscriptions → AreSeated s.name (wills s.members ++ will_of m ∷ []) (joined s m.subscription kind ranges m.number initial)
  seated_joined ranges initial named topic seated = by (find (is_named m.subscription) s.subscriptions) refl
    where
      by : (o : Option Subscription) → find (is_named m.subscription) s.subscriptions ≡ o
          → AreSeated s.name (wills s.members ++ will_of m ∷ []) (if is_some o then changed (is_named m.subscription) (joining kind ranges m.number) s.subscriptions else placed (new_subscription m.subscription kind ranges m.number initial s.log) s.subscriptions)
      by (Some sub) found = record {
        few = let same = as_many m.subscription (joining kind ranges m.number) s.subscriptions (λ _. refl) in omega (arith, same, seated.few);
        targets = all_with (λ w. IsTopic w.target) (wills s.members) (will_of m) seated.targets topic;
        each = each_changed (IsSubWithin s.name (wills s.members)) (IsSubWithin s.name (wills s.members ++ will_of m ∷ [])) m.subscription (joining kind ranges m.number) s.subscriptions (λ _. refl) beside
            (λ other there within. within_joining ranges other there (same_name other.name m.subscription (found_passes (is_named m.subscription) s.subscriptions other there)) within) seated.each;
      }
      by None none =
          let differs : has_kind s m.subscription kind ≡ false = ap (λ o. option_map_or (λ (sub : Subscription). same_kind sub.kind kind) o false) none in
          let new : Subscription = new_subscription m.subscription kind ranges m.number initial s.log in
          record {
            few =
                let more = length_inserted s.subscriptions (position_or_len (λ other. is_lt (name_order new.name other.name)) s.subscriptions) new in
                let room = may.room (ap is_some none) in
                omega arith;
            targets = all_with (λ w. IsTopic w.target) (wills s.members) (will_of m) seated.targets topic;
            each = each_placed (IsSubWithin s.name (wills s.members)) (IsSubWithin s.name (wills s.members ++ will_of m ∷ [])) new s.subscriptions none
                (record { name = named; letters = All-nil (IsLetterWithin s.name); elsewhere = its_own m.subscription (none_dies s.name m.subscription kind (wills s.members) (may.agrees differs)) })
                beside seated.each;
          }

  pub limits_joined : (ranges : Option (List HashRange)) (initial : Initial) → IsSubscriptionName m.subscription → IsTopic m.dead_topic → KeepsLimits s → KeepsLimits (with_member s kind ranges initial m)
  limits_joined ranges initial named topic keeps = record {
    size = keeps.size;
    authors = keeps.authors;
    rule = keeps.rule;
    log = keeps.log;
    producers = keeps.producers;
    seated = subst (λ all. AreSeated s.name all (joined s m.subscription kind ranges m.number initial)) (sym (map-append will_of s.members (m ∷ []))) (seated_joined ranges initial named topic keeps.seated);
  }

-- ---- leaving

-- fewer members
seated_fewer : (own : TopicName) (consumer : ℕ) (members : List Member) (subs : List Subscription) → AreSeated own (wills members) subs → AreSeated own (wills (removed (is_member consumer) members)) subs
seated_fewer own consumer members subs seated = record {
  few = seated.few;
  targets = each_key_removed will_of (λ w. IsTopic w.target) (is_member consumer) members seated.targets;
  each = each_kept (IsSubWithin own (wills members)) (IsSubWithin own (wills (removed (is_member consumer) members))) subs
      (λ sub within. record {
        name = within.name;
        letters = within.letters;
        elsewhere = each_key_removed will_of (λ w. bytes_eq w.subscription sub.name ≡ true → dies_into own sub.kind w ≡ false) (is_member consumer) members within.elsewhere;
      }) seated.each;
}

pub limits_left : (s : State) (consumer : ℕ) (n : List ℕ) → KeepsLimits s → KeepsLimits (without_member s consumer n)
limits_left s consumer n keeps = record {
  size = keeps.size;
  authors = keeps.authors;
  rule = keeps.rule;
  log = keeps.log;
  producers = keeps.producers;
  seated = seated_changed s.name (wills (removed (is_member consumer) s.members)) n (leaving consumer) s.subscriptions (λ _. refl) (λ _. refl) (λ _ _ all. all)
      (seated_fewer s.name consumer s.members s.subscriptions keeps.seated);
}

-- ---- dying

-- the member at which a message dies: it is found by its number, and its messages die
record IsHolder (members : List Member) (sub : Subscription) (position : Position) (m : Member) : Type 0 where
  held : Held
  pending : map_of.get sub.pending position ≡ Some held
  found : find (is_member held.consumer) members ≡ Some m
  dies : nat_lt 0 m.max_redeliver ≡ true

holder : (s : State) (sub : Subscription) (position : Position) (m : Member) → dying_at s sub position ≡ Some m → IsHolder s.members sub position m
holder s sub position m dying = by (map_of.get sub.pending position) refl dying
  where
    chosen : (x : Member) (b : Bool) → is_to_die s.next_ordinal sub position x ≡ b → (if b then Some x else None) ≡ Some m → (x ≡ m) × (nat_lt 0 m.max_redeliver ≡ true)
    chosen x true e is =
        let same : x ≡ m = cc in
        (same, ap (λ (y : Member). nat_lt 0 y.max_redeliver) (sym same) ∙ and_first _ _ (and_first _ _ e))
    chosen x false e is = cc

    at : (h : Held) → map_of.get sub.pending position ≡ Some h → (o : Option Member) → find (is_member h.consumer) s.members ≡ o
        → option_and_then (λ x. if is_to_die s.next_ordinal sub position x then Some x else None) o ≡ Some m → IsHolder s.members sub position m
    at h got None found is = cc
    at h got (Some x) found is =
        let one = chosen x (is_to_die s.next_ordinal sub position x) refl is in
        record { held = h; pending = got; found = found ∙ ap Some one.0; dies = one.1 }

    by : (o : Option Held) → map_of.get sub.pending position ≡ o → option_and_then (λ h. option_and_then (λ x. if is_to_die s.next_ordinal sub position x then Some x else None) (find (is_member h.consumer) s.members)) o ≡ Some m
        → IsHolder s.members sub position m
    by None got is = cc
    by (Some h) got is = at h got (find (is_member h.consumer) s.members) refl is

-- who is found by the number is at the subscription, where somebody of the number is
found_at : (next : ℕ) (members : List Member) (name : List ℕ) (number : ℕ) (m : Member) → AreGiven next (numbers_of members) → is_seated members name number ≡ true → find (is_member number) members ≡ Some m → is_at name m ≡ true
found_at next members name number m given seated found =
    let there = Any-from_list_any (is_seat name number) members seated in
    let x : Member = there.1 in
    let number_of : x.number ≡ number = number_is x.number number (and_second (is_at name x) (is_member number x) there.4) in
    let its : find (is_member number) members ≡ Some x = subst (λ n. find (is_member n) members ≡ Some x) number_of (found_by_number next members x given (there.0, there.2, there.3)) in
    let same : x ≡ m = cc in
    ap (is_at name) (sym same) ∙ and_first (is_at name x) (is_member number x) there.4

-- what dies goes elsewhere
pub dies_elsewhere : (s : State) (sub : Subscription) (position : Position) (m : Member) → is_in_order sub.kind ≡ false → dying_at s sub position ≡ Some m → IsTendedIn s.log s.members sub → AreGiven s.next_consumer (numbers_of s.members)
    → AllByRecursion (λ w. IsTopic w.target) (wills s.members) → IsSubWithin s.name (wills s.members) sub → IsLetterWithin s.name (letter_of s position m)
dies_elsewhere s sub position m unordered dying tended given targets within =
    let h = holder s sub position m dying in
    let at : is_at sub.name m ≡ true = found_at s.next_consumer s.members sub.name h.held.consumer m given (tended.at_members position h.held h.pending) h.found in
    let contained = found_contained (is_member h.held.consumer) s.members m h.found in
    let topic = All-contains (λ (x : Member). IsTopic x.dead_topic) s.members m (All-from_recursion _ s.members (all_seen (λ w. IsTopic w.target) will_of s.members targets)) contained in
    let dies = All-contains (λ (x : Member). is_at sub.name x ≡ true → dies_into s.name sub.kind (will_of x) ≡ false) s.members m
    (All-from_recursion _ s.members (all_seen (λ w. bytes_eq w.subscription sub.name ≡ true → dies_into s.name sub.kind w ≡ false) will_of s.members within.elsewhere)) contained at in
    (topic, last (is_in_order sub.kind) (nat_lt 0 m.max_redeliver) (same_topic m.dead_topic s.name) unordered h.dies dies)
  where
    last : (a b c : Bool) → a ≡ false → b ≡ true → ((not a && b) && c) ≡ false → c ≡ false
    last a b c e f none = grind (arith, nat_tests)
