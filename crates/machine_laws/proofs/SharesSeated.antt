-- In Key_Shared the members that are there have the shares, each one of them, as they join and leave.
use Rattle.std.proofs.Common.{◌≡◌, ℕ, ◌+◌, ◌<◌, List, [], ◌∷◌, ◌++◌, length, Some, None, Option, Bool, true, false, cond, refl, ap, ◌∙◌, sym, subst, suc, arith, Contains, true≢false}
use Rattle.std.specs.Prelude.{IfSome, ◌==◌, ◌&&◌, ◌||◌, not, nat_lt, nat_le, is_some, if◌then◌else◌}
use Rattle.std.specs.List.{AllByRecursion, find, filter, list_any}
use Rattle.std.specs.Option.{option_map_or}
use Rattle.std.proofs.lemmas.Bool.Decides.{nat_tests}
use Rattle.std.proofs.lemmas.List.Folds.{list_any-append}
use Rattle.std.proofs.lemmas.List.Elements.{recursion_from_All}
use Rattle.position_core.specs.declared.topic_name.TopicName.{TopicName}
use Rattle.position_core.specs.declared.kind.Kind.{Kind}
use Rattle.position_core.specs.declared.fault.Fault.{Fault}
use Rattle.position_core.specs.declared.fault.Fault.TheVariants.{WrongKind, ConsumerBusy, TooMany, HashOverlap, MixedPolicy}
use Rattle.position_core.specs.declared.kind.Kind.TheVariants.{Exclusive}
use Rattle.position_core.specs.Kind.{same_kind}
use Rattle.position_core.specs.declared.ranges.HashRange.{HashRange}
use Rattle.position_core.specs.Ranges.{AreRanges}
use Rattle.delivery_machine.specs.Shares.{no_shares, mixes, asks_taken}
use Rattle.delivery_machine.specs.State.{State, Member, Subscription}
use Rattle.delivery_machine.specs.Words.{changed, removed, is_named, is_at, is_member, has_kind}
use Rattle.delivery_machine.specs.WellFormed.{AreGiven}
use Rattle.delivery_machine.specs.Refusals.{subscribing_refused, mixes_policies, overlaps}
use Rattle.delivery_machine.specs.Joining.{joining, new_subscription, placed, with_member, leaving, without_member}
use Rattle.delivery_machine.specs.Delivering.{given}
use Rattle.delivery_machine.specs.declared.event.Initial.{Initial}
use Rattle.delivery_machine.proofs.Deciding.{number_is}
use Rattle.delivery_machine.proofs.Firsts.{any_removed, any_contained, found_contained, found_passes, some_kept}
use Rattle.delivery_machine.proofs.Behind.{same_name, is_same_name, names_differ}
use Rattle.delivery_machine.proofs.Tended.{is_seat, is_seated}
use Rattle.delivery_machine.proofs.Kept.{other_number}
use Rattle.machine_laws.proofs.Ranks.{seats_at, those_pushed, those_removed, one_less, those_with}
use Rattle.delivery_machine.proofs.EachFirst.{EachFirst, each_changed, each_placed}
use Rattle.machine_laws.proofs.Seated.{is_there, AllThere, any_found}
use Rattle.machine_laws.proofs.WellKept.{IsWellKept, names_of, numbers_of}
use Rattle.machine_laws.proofs.WellSeated.{others_left}
use Rattle.machine_laws.proofs.SharedOut.{HaveShares, may_share, may_share_first, shares_of_same, nobody_there, none_where_nobody, of_any_kind, shares_pushed, shares_taken}

abbrev pub HasShares : List Member → Subscription → Type 0
HasShares members sub = HaveShares sub.kind sub.shares (is_seated members sub.name) (seats_at members sub.name)

abbrev pub AllHaveShares : List Member → List Subscription → Type 0
AllHaveShares members subs = EachFirst (HasShares members) subs

abbrev pub AreShared : State → Type 0
AreShared s = AllHaveShares s.members s.subscriptions

-- ---- joining

any_pushed_is : {A : Type 0} (p : A → Bool) (xs : List A) (y : A) → list_any p (xs ++ y ∷ []) ≡ (list_any p xs || p y)
any_pushed_is p xs y = list_any-append p xs (y ∷ []) ∙ ap (λ b. list_any p xs || b) (alone (p y))
  where
    alone : (t : Bool) → (t || false) ≡ t
    alone t = grind (arith, nat_tests)

-- the next number is at no subscription
nobody_yet : (members : List Member) (name : List ℕ) (next : ℕ) → AllByRecursion (λ n. n < next) (numbers_of members) → is_seated members name next ≡ false
nobody_yet [] name next below = refl
nobody_yet (m ∷ members) name next below = neither (is_at name m) (is_member next m) (is_seated members name next) (lower m.number next below.0) (nobody_yet members name next below.1)
  where
    lower : (a b : ℕ) → a < b → (a == b) ≡ false
    lower a b low = grind (arith, nat_tests)

    neither : (a b c : Bool) → b ≡ false → c ≡ false → ((a && b) || c) ≡ false
    neither a b c e f = grind (arith, nat_tests)

-- where there are no members at a subscription, none has a number there
none_seated : (members : List Member) (name : List ℕ) (number : ℕ) → seats_at members name ≡ 0 → is_seated members name number ≡ false
none_seated members name number none = by (is_seated members name number) refl
  where
    some : (n : ℕ) → nat_lt 0 n ≡ true → n ≡ 0 → ⊥
    some n e f = grind (arith, nat_tests)

    first : (a b : Bool) → (a && b) ≡ true → a ≡ true
    first a b e = grind (arith, nat_tests)

    by : (t : Bool) → is_seated members name number ≡ t → t ≡ false
    by false e = refl
    by true e = absurd (some (seats_at members name) (some_kept (is_seat name number) (is_at name) members (λ m. first (is_at name m) (is_member number m)) e) none)

-- where no number is at the subscription, there are no members there
none_counted : (members : List Member) (name : List ℕ) → ((number : ℕ) → is_seated members name number ≡ false) → seats_at members name ≡ 0
none_counted [] name nobody = refl
none_counted (m ∷ members) name nobody = by (is_at name m) (nobody m.number) (none_counted members name (λ number. later (is_at name m && is_member number m) (is_seated members name number) (nobody number)))
  where
    later : (a b : Bool) → (a || b) ≡ false → b ≡ false
    later a b e = grind (arith, nat_tests)

    mine : (n : ℕ) (b : Bool) → ((true && n == n) || b) ≡ false → ⊥
    mine n b e = grind (arith, nat_tests)

    by : (b : Bool) → ((b && is_member m.number m) || is_seated members name m.number) ≡ false → seats_at members name ≡ 0 → length (cond b (m ∷ filter (is_at name) members) (filter (is_at name) members)) ≡ 0
    by true none rest = absurd (mine m.number (is_seated members name m.number) none)
    by false none rest = rest

-- what subscribing needs
record MaySubscribe (s : State) (name : List ℕ) (kind : Kind) (ranges : Option (List HashRange)) : Type 0 where
  of_kind : (nat_lt 0 (seats_at s.members name) && not (has_kind s name kind)) ≡ false
  pure : mixes_policies s name kind ranges ≡ false
  free : overlaps s name kind ranges ≡ false
  few : seats_at s.members name < 64

may_subscribe : (s : State) (name : List ℕ) (kind : Kind) (max_redeliver : ℕ) (dead_topic : TopicName) (ranges : Option (List HashRange)) → subscribing_refused s name kind max_redeliver dead_topic ranges ≡ None → MaySubscribe s name kind ranges
may_subscribe s name kind max_redeliver dead_topic ranges allowed =
    let tests = passed (nat_lt 0 (seats_at s.members name) && not (has_kind s name kind)) (nat_lt 0 (seats_at s.members name) && same_kind kind Exclusive) (mixes_policies s name kind ranges) (overlaps s name kind ranges) (nat_le 64 (seats_at s.members name)) _ allowed in
    record { of_kind = tests.0; pure = tests.1; free = tests.2; few = below (seats_at s.members name) tests.3 }
  where
    below : (n : ℕ) → nat_le 64 n ≡ false → n < 64
    below n e = grind (arith, nat_tests)

    passed : (a b c d e : Bool) (rest : Option Fault)
        → (if a then Some WrongKind else if b then Some ConsumerBusy else if c then Some MixedPolicy else if d then Some HashOverlap else if e then Some TooMany else rest) ≡ None
        → (a ≡ false) × (c ≡ false) × (d ≡ false) × (e ≡ false)
    passed true b c d e rest none = cc
    passed false true c d e rest none = cc
    passed false false true d e rest none = cc
    passed false false false true e rest none = cc
    passed false false false false true rest none = cc
    passed false false false false false rest none = (refl, refl, refl, refl)

none_of_other_kind : (s : State) (name : List ℕ) (kind : Kind) → (nat_lt 0 (seats_at s.members name) && not (has_kind s name kind)) ≡ false → has_kind s name kind ≡ false → seats_at s.members name ≡ 0
none_of_other_kind s name kind allowed other = none (seats_at s.members name) (has_kind s name kind) allowed other
  where
    none : (n : ℕ) (b : Bool) → (nat_lt 0 n && not b) ≡ false → b ≡ false → n ≡ 0
    none n b e f = grind (arith, nat_tests)

nobody_named : (members : List Member) (name : List ℕ) (subs : List Subscription) → AllThere (names_of members) subs → find (is_named name) subs ≡ None → seats_at members name ≡ 0
nobody_named [] name subs there absent = refl
nobody_named (m ∷ members) name subs there absent = by (is_at name m) refl (nobody_named members name subs there.1 absent)
  where
    by : (b : Bool) → is_at name m ≡ b → seats_at members name ≡ 0 → length (cond b (m ∷ filter (is_at name) members) (filter (is_at name) members)) ≡ 0
    by false elsewhere rest = rest
    by true here rest =
        let named : m.subscription ≡ name = same_name m.subscription name here in
        let there_too : list_any (is_named name) subs ≡ true = subst (λ (n : List ℕ). is_there subs n ≡ true) named there.0 in
        absurd (true≢false (sym there_too ∙ sym (any_found (is_named name) subs) ∙ ap is_some absent))

joined_shares : (s : State) (kind : Kind) (ranges : Option (List HashRange)) (m : Member) (sub : Subscription) → m.number ≡ s.next_consumer → IfSome ranges AreRanges → MaySubscribe s m.subscription kind ranges → AreGiven s.next_consumer (numbers_of s.members)
    → find (is_named m.subscription) s.subscriptions ≡ Some sub → HasShares s.members sub → HasShares (s.members ++ m ∷ []) (joining kind ranges m.number sub)
joined_shares s kind ranges m sub is ranged may given found have =
    shares_pushed kind ranges sub.shares (is_seated s.members sub.name) (is_seated (s.members ++ m ∷ []) sub.name) (seats_at s.members sub.name) (seats_at (s.members ++ m ∷ []) sub.name) m.number
    (may_share kind ranges sub.shares (nat_lt 0 (seats_at s.members m.subscription)) ranged
    (sym (ap (λ o. nat_lt 0 (seats_at s.members m.subscription) && option_map_or (λ (sub : Subscription). mixes kind ranges sub.shares) o false) found) ∙ may.pure)
    (sym (ap (λ o. option_map_or (λ (sub : Subscription). asks_taken kind ranges sub.shares) o false) found) ∙ may.free)
    (λ none. none_where_nobody sub.kind sub.shares (is_seated s.members sub.name) (seats_at s.members sub.name) (nobody (zero_of (seats_at s.members m.subscription) none)) have))
    (subst (λ n. is_seated s.members sub.name n ≡ false) (sym is) (nobody_yet s.members sub.name s.next_consumer (recursion_from_All (λ n. n < s.next_consumer) (numbers_of s.members) given.below)))
    (subst (λ (n : List ℕ). seats_at s.members n < 64) (sym named) may.few)
    (λ number. any_pushed_is (is_seat sub.name number) s.members m ∙ ap (λ t. is_seated s.members sub.name number || (t && m.number == number)) here)
    (those_with s.members m sub.name here)
    (of_any_kind sub.kind kind sub.shares (is_seated s.members sub.name) (seats_at s.members sub.name) free have)
  where
    named : sub.name ≡ m.subscription
    named = same_name sub.name m.subscription (found_passes (is_named m.subscription) s.subscriptions sub found)

    here : is_at sub.name m ≡ true
    here = is_same_name m.subscription sub.name (sym named)

    zero_of : (n : ℕ) → nat_lt 0 n ≡ false → n ≡ 0
    zero_of n e = grind (arith, nat_tests)

    nobody : seats_at s.members m.subscription ≡ 0 → (number : ℕ) → is_seated s.members sub.name number ≡ false
    nobody none number = none_seated s.members sub.name number (ap (seats_at s.members) named ∙ none)

    free : same_kind sub.kind kind ≡ false → (seats_at s.members sub.name ≡ 0) × ((number : ℕ) → is_seated s.members sub.name number ≡ false)
    free other =
        let none : seats_at s.members m.subscription ≡ 0 =
        none_of_other_kind s m.subscription kind may.of_kind (ap (λ o. option_map_or (λ (sub : Subscription). same_kind sub.kind kind) o false) found ∙ other) in
        (ap (seats_at s.members) named ∙ none, nobody none)

elsewhere_pushed : (members : List Member) (m : Member) (sub : Subscription) → is_named m.subscription sub ≡ false → HasShares members sub → HasShares (members ++ m ∷ []) sub
elsewhere_pushed members m sub elsewhere have =
    shares_of_same sub.kind sub.shares (is_seated members sub.name) (is_seated (members ++ m ∷ []) sub.name) (seats_at members sub.name) (seats_at (members ++ m ∷ []) sub.name)
    (λ number. any_pushed_is (is_seat sub.name number) members m ∙ without_it (is_seated members sub.name number) (is_at sub.name m) (is_member number m) differs)
    (ap (λ (xs : List Member). length xs) (those_pushed members m sub.name differs)) have
  where
    differs : is_at sub.name m ≡ false
    differs = names_differ sub.name m.subscription elsewhere

    without_it : (a b c : Bool) → b ≡ false → (a || (b && c)) ≡ a
    without_it a b c e = grind (arith, nat_tests)

-- the first member of a new subscription
new_shares : (s : State) (kind : Kind) (ranges : Option (List HashRange)) (initial : Initial) (m : Member) → IfSome ranges AreRanges → AllThere (names_of s.members) s.subscriptions → find (is_named m.subscription) s.subscriptions ≡ None
    → HasShares (s.members ++ m ∷ []) (new_subscription m.subscription kind ranges m.number initial s.log)
new_shares s kind ranges initial m ranged there absent =
    shares_pushed kind ranges no_shares (is_seated s.members m.subscription) (is_seated (s.members ++ m ∷ []) m.subscription) 0 (seats_at (s.members ++ m ∷ []) m.subscription) m.number
    (may_share_first kind ranges ranged) (nobody m.number) (omega arith)
    (λ number. any_pushed_is (is_seat m.subscription number) s.members m ∙ ap (λ t. is_seated s.members m.subscription number || (t && m.number == number)) here)
    (those_with s.members m m.subscription here ∙ ap (λ n. n + 1) none)
    (nobody_there kind (is_seated s.members m.subscription) nobody)
  where
    here : is_at m.subscription m ≡ true
    here = is_same_name m.subscription m.subscription refl

    none : seats_at s.members m.subscription ≡ 0
    none = nobody_named s.members m.subscription s.subscriptions there absent

    nobody : (number : ℕ) → is_seated s.members m.subscription number ≡ false
    nobody number = none_seated s.members m.subscription number none

pub shared_joined : (s : State) (kind : Kind) (ranges : Option (List HashRange)) (initial : Initial) (m : Member) → m.number ≡ s.next_consumer → IfSome ranges AreRanges → subscribing_refused s m.subscription kind m.max_redeliver m.dead_topic ranges ≡ None → IsWellKept s → AreShared s
    → AreShared (with_member s kind ranges initial m)
shared_joined s kind ranges initial m is ranged allowed well all = by (find (is_named m.subscription) s.subscriptions) refl
  where
    may : MaySubscribe s m.subscription kind ranges
    may = may_subscribe s m.subscription kind m.max_redeliver m.dead_topic ranges allowed

    by : (o : Option Subscription) → find (is_named m.subscription) s.subscriptions ≡ o
        → AllHaveShares (s.members ++ m ∷ []) (cond (is_some o) (changed (is_named m.subscription) (joining kind ranges m.number) s.subscriptions) (placed (new_subscription m.subscription kind ranges m.number initial s.log) s.subscriptions))
    by (Some sub) found =
        each_changed (HasShares s.members) (HasShares (s.members ++ m ∷ [])) m.subscription (joining kind ranges m.number) s.subscriptions (λ _. refl)
        (λ sub elsewhere have. elsewhere_pushed s.members m sub elsewhere have)
        (λ sub there have. joined_shares s kind ranges m sub is ranged may well.members there have) all
    by None absent =
        each_placed (HasShares s.members) (HasShares (s.members ++ m ∷ [])) (new_subscription m.subscription kind ranges m.number initial s.log) s.subscriptions absent
        (new_shares s kind ranges initial m ranged well.there absent)
        (λ sub elsewhere have. elsewhere_pushed s.members m sub elsewhere have) all

-- ---- leaving

left_shares : (s : State) (consumer : ℕ) (m : Member) (sub : Subscription) → AreGiven s.next_consumer (numbers_of s.members) → find (is_member consumer) s.members ≡ Some m → sub.name ≡ m.subscription → HasShares s.members sub → HasShares (removed (is_member consumer) s.members) (leaving consumer sub)
left_shares s consumer m sub given found named have =
    shares_taken sub.kind sub.shares (is_seated s.members sub.name) (is_seated left sub.name) (seats_at s.members sub.name) (seats_at left sub.name) consumer
    (any_contained (is_seat sub.name consumer) s.members m (found_contained (is_member consumer) s.members m found) (both (is_at sub.name m) (is_member consumer m) here mine))
    (λ number. others number (number == consumer) refl)
    (one_less (is_member consumer) s.members m sub.name found here)
    (none_counted left sub.name)
    have
  where
    left : List Member
    left = removed (is_member consumer) s.members

    here : is_at sub.name m ≡ true
    here = is_same_name m.subscription sub.name (sym named)

    mine : is_member consumer m ≡ true
    mine = found_passes (is_member consumer) s.members m found

    both : (a b : Bool) → a ≡ true → b ≡ true → (a && b) ≡ true
    both a b e f = grind (arith, nat_tests)

    never : (b : Bool) → false ≡ (b && false)
    never b = grind (arith, nat_tests)

    always : (b : Bool) → b ≡ (b && true)
    always b = grind (arith, nat_tests)

    skip : (a b c : Bool) → b ≡ false → ((a && b) || c) ≡ true → c ≡ true
    skip a b c e f = grind (arith, nat_tests)

    gone : (members : List Member) → ((other : Member) → Contains members other → (other.number == consumer) ≡ false) → is_seated members sub.name consumer ≡ false
    gone members differ = by (is_seated members sub.name consumer) refl
      where
        by : (b : Bool) → is_seated members sub.name consumer ≡ b → b ≡ false
        by false e = refl
        by true e = absurd (one_there members differ e)
          where
            one_there : (ms : List Member) → ((other : Member) → Contains ms other → (other.number == consumer) ≡ false) → is_seated ms sub.name consumer ≡ true → ⊥
            one_there [] differ any = true≢false (sym any)
            one_there (x ∷ ms) differ any =
                one_there ms (λ other at. differ other (let low = at.1 in (suc at.0, omega arith, at.2)))
                (skip (is_at sub.name x) (is_member consumer x) (is_seated ms sub.name consumer) (differ x (0, omega arith, refl)) any)

    others : (number : ℕ) (t : Bool) → (number == consumer) ≡ t → is_seated left sub.name number ≡ (is_seated s.members sub.name number && not t)
    others number true same =
        subst (λ n. is_seated left sub.name n ≡ (is_seated s.members sub.name number && false)) (sym (number_is number consumer same))
        (gone left (others_left s.next_consumer consumer s.members m given found) ∙ never (is_seated s.members sub.name number))
    others number false differs =
        any_removed (is_seat sub.name number) (is_member consumer) s.members m found (other_number consumer number sub.name m mine (ap not differs))
        ∙ always (is_seated s.members sub.name number)

elsewhere_left : (s : State) (consumer : ℕ) (m : Member) (sub : Subscription) → find (is_member consumer) s.members ≡ Some m → is_named m.subscription sub ≡ false → HasShares s.members sub → HasShares (removed (is_member consumer) s.members) sub
elsewhere_left s consumer m sub found elsewhere have =
    shares_of_same sub.kind sub.shares (is_seated s.members sub.name) (is_seated (removed (is_member consumer) s.members) sub.name) (seats_at s.members sub.name) (seats_at (removed (is_member consumer) s.members) sub.name)
    (λ number. any_removed (is_seat sub.name number) (is_member consumer) s.members m found (ap (λ b. b && is_member number m) differs))
    (ap (λ (xs : List Member). length xs) (those_removed (is_member consumer) s.members m sub.name found differs)) have
  where
    differs : is_at sub.name m ≡ false
    differs = names_differ sub.name m.subscription elsewhere

pub shared_left : (s : State) (consumer : ℕ) (m : Member) → find (is_member consumer) s.members ≡ Some m → IsWellKept s → AreShared s → AreShared (without_member s consumer m.subscription)
shared_left s consumer m found well all =
    each_changed (HasShares s.members) (HasShares (removed (is_member consumer) s.members)) m.subscription (leaving consumer) s.subscriptions (λ _. refl)
    (λ sub elsewhere have. elsewhere_left s consumer m sub found elsewhere have)
    (λ sub there have. left_shares s consumer m sub well.members found (same_name sub.name m.subscription (found_passes (is_named m.subscription) s.subscriptions sub there)) have) all
