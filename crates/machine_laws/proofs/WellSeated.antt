-- What is well kept stays so where members join and leave, and where messages are sent to them and collected.
use Rattle.std.proofs.Common.{◌≡◌, ℕ, ◌+◌, List, [], ◌∷◌, ◌++◌, length, Some, None, Option, Bool, true, false, cond, refl, ap, ◌∙◌, sym, subst, arith, Contains, true≢false}
use Rattle.std.specs.Prelude.{◌==◌, not, is_some}
use Rattle.std.specs.List.{AllByRecursion, find, filter}
use Rattle.std.specs.Option.{option_map_or}
use Rattle.std.specs.Ordering.{nat_cmp}
use Rattle.std.specs.Cmp.{nat_cmp_total}
use Rattle.std.specs.FinMap as map_of
use Rattle.std.specs.FinSet as set
use Rattle.std.proofs.lemmas.List.{map-append}
use Rattle.std.proofs.lemmas.List.Elements.{All-contains, All-from_recursion}
use Rattle.std.proofs.lemmas.Map.Keys.{sorted_from_strictly_increasing}
use Rattle.position_core.specs.declared.position.Position.{Position}
use Rattle.position_core.specs.declared.message.Entry.{Entry}
use Rattle.position_core.specs.declared.held.Held.{Held}
use Rattle.position_core.specs.declared.kind.Kind.{Kind}
use Rattle.position_core.specs.declared.kind.Kind.TheVariants.{Exclusive, Failover, Shared, KeyShared}
use Rattle.position_core.specs.Name.{name_order}
use Rattle.position_core.specs.declared.ranges.HashRange.{HashRange}
use Rattle.delivery_machine.specs.State.{State, Member, Subscription}
use Rattle.delivery_machine.specs.Words.{changed, removed, is_named, is_at, is_member, is_held_by, is_held_at, is_live, is_dead, is_waiting, waits_with_hash, hash_of, visible, count_of, ChoosesBy, IsEligible}
use Rattle.delivery_machine.specs.Refusals.{nacking_refused}
use Rattle.delivery_machine.specs.Joining.{joining, new_subscription, placed, with_member, leaving, without_member}
use Rattle.delivery_machine.specs.Delivering.{holding, given, sent, due_after}
use Rattle.delivery_machine.specs.WellFormed.{AreGiven}
use Rattle.delivery_machine.specs.declared.delivery.Delivery.{Delivery}
use Rattle.delivery_machine.specs.declared.event.Initial.{Initial}
use Rattle.delivery_machine.proofs.Deciding.{turned, and_first, and_second, number_is, itself, holds_unless_refused}
use Rattle.delivery_machine.proofs.Firsts.{any_changed, any_removed, found_contained, found_passes}
use Rattle.delivery_machine.proofs.Behind.{same_name, is_same_name, other_name}
use Rattle.delivery_machine.proofs.Sending.{taken_contained}
use Rattle.machine_laws.proofs.Chosen.{chosen_member}
use Rattle.delivery_machine.proofs.Tended.{some_is}
use Rattle.delivery_machine.proofs.Messages.{has_there}
use Rattle.delivery_machine.proofs.Among.{key_differs, found_by_key}
use Rattle.delivery_machine.proofs.Keyed.{keys_changed, each_key_removed, sorted_removed}
use Rattle.delivery_machine.proofs.Given.{given_pushed, given_removed}
use Rattle.delivery_machine.proofs.EachFirst.{EachFirst, each_changed, each_placed}
use Rattle.machine_laws.proofs.Named.{AreNamed, named_changed, named_placed, found_left}
use Rattle.machine_laws.proofs.Ordinals.{AreOnce, times_among, among_removed, among_inserted, once_fewer}
use Rattle.machine_laws.proofs.Seated.{is_there, AllThere, all_there, any_found, any_inserted, inserted_there}
use Rattle.machine_laws.proofs.Ranks.{seats_at}
use Rattle.machine_laws.proofs.Formed.{IsFormed, IsLiveAt, formed_new, formed_with, formed_leaving, formed_holding}
use Rattle.machine_laws.proofs.Uncollected.{holds_in, uncollected_held, uncollected_sent, uncollected_changed, uncollected_pushed, uncollected_left, uncollected_same, holds_kept, holds_placed, holds_removed}
use Rattle.machine_laws.proofs.WellKept.{IsWellKept, well_changed, ordinals_stay, letters, numbers_of, names_of}

-- each member is found by its number
pub found_by_number : (next : ℕ) (members : List Member) (m : Member) → AreGiven next (numbers_of members) → Contains members m → find (is_member m.number) members ≡ Some m
found_by_number next members m given at =
    found_by_key nat_cmp nat_cmp_total (λ m. m.number) (is_member m.number) members m (λ other t. number_is other.number m.number t)
    (sorted_from_strictly_increasing (numbers_of members) given.rising) (itself m.number) at

-- none of its number is left
pub others_left : (next consumer : ℕ) (members : List Member) (m : Member) → AreGiven next (numbers_of members) → find (is_member consumer) members ≡ Some m → (other : Member) → Contains (removed (is_member consumer) members) other → (other.number == consumer) ≡ false
others_left next consumer members m given found other left = by (other.number == consumer) refl
  where
    by : (b : Bool) → (other.number == consumer) ≡ b → b ≡ false
    by false differs = refl
    by true same =
        absurd (key_differs nat_cmp nat_cmp_total (λ (m : Member). m.number) (is_member consumer) members m other (sorted_from_strictly_increasing (numbers_of members) given.rising) found left
        (number_is other.number consumer same ∙ sym (number_is m.number consumer (found_passes (is_member consumer) members m found))))

-- ---- a message is held

-- a message that is pending at the consumer falls due at another moment
pub well_nacked : (s : State) (m : Member) (consumer : ℕ) (position : Position) (due : Option ℕ) → nacking_refused s consumer position (Some m) ≡ None → IsWellKept s
    → IsWellKept (record s { subscriptions = changed (is_named m.subscription) (holding position (record { consumer = consumer; due = due })) s.subscriptions })
well_nacked s m consumer position due allowed well =
    let after = well_changed s m.subscription (holding position held) s.members s.next_ordinal
    (record {
      name = λ _. refl;
      formed = λ sub found formed. pending sub formed (map_of.get sub.pending position) refl (sym (ap (λ o. option_map_or (λ (sub : Subscription). is_held_by consumer (map_of.get sub.pending position)) o false) found) ∙ was);
      numbers = refl;
      names = refl;
      ordinals = ordinals_stay s.next_ordinal m.subscription (holding position held) s.subscriptions (λ k sub. omega arith) well.ordinals;
      uncollected = uncollected_held s.log s.members s.subscriptions m.subscription position held was well.uncollected;
    }) well in
    record { ledgered = after.ledgered; gone = after.gone; authors = after.authors; connected = after.connected; members = after.members; there = after.there; named = after.named; ordinals = after.ordinals; each = after.each; uncollected = after.uncollected }
  where
    held : Held
    held = record { consumer = consumer; due = due }

    was : is_held_at s m.subscription consumer position ≡ true
    was = holds_unless_refused _ _ allowed

    pending : (sub : Subscription) → IsFormed s.log s.durable sub → (o : Option Held) → map_of.get sub.pending position ≡ o → is_held_by consumer o ≡ true → IsFormed s.log s.durable (holding position held sub)
    pending sub formed None got at = absurd (true≢false (sym at))
    pending sub formed (Some h) got at = formed_holding s.log s.durable position held sub (formed.visible position h got) (formed.live position h got) formed

-- what is chosen waits, and is visible
pub chosen_waits : (kind : Kind) (s : State) (sub : Subscription) (e : Entry) (m : Member) → ChoosesBy kind s sub e m → Contains (visible s) e × (is_waiting sub e ≡ true)
chosen_waits Exclusive s sub e m h = (found_contained (is_waiting sub) (visible s) e h.0, found_passes (is_waiting sub) (visible s) e h.0)
chosen_waits Failover s sub e m h = (found_contained (is_waiting sub) (visible s) e h.0, found_passes (is_waiting sub) (visible s) e h.0)
chosen_waits Shared s sub e m h = (found_contained (is_waiting sub) (visible s) e h.0, found_passes (is_waiting sub) (visible s) e h.0)
chosen_waits KeyShared s sub e m h = (
  found_contained (waits_with_hash sub (hash_of e)) (visible s) e h.0,
  and_first (is_waiting sub e) (hash_of e == hash_of e) (found_passes (waits_with_hash sub (hash_of e)) (visible s) e h.0),
)

-- a live message is neither acknowledged nor dead
pub lives : (sub : Subscription) (e : Entry) → is_live sub e ≡ true → IsLiveAt sub e.position
lives sub e live = (turned (set.contains sub.acknowledged e.position) (and_first _ _ live), turned (is_dead sub e.position) (and_second (not (set.contains sub.acknowledged e.position)) _ live))

pub well_sent : (s : State) (n : List ℕ) (sub : Subscription) (e : Entry) (m : Member) (now : ℕ) → find (is_named n) s.subscriptions ≡ Some sub → IsEligible s sub e m → IsWellKept s → IsWellKept (sent s n sub e m now)
well_sent s n sub e m now found eligible well =
    well_changed s n (holding e.position held) (changed (is_member m.number) (given d) s.members) s.next_ordinal
    (record {
      name = λ _. refl;
      formed = λ other there formed.
          formed_holding s.log s.durable e.position held other (has_there (visible s) e.position (e, waits.0, refl))
          (lives other e (ap (λ (z : Subscription). is_live z e) (some_is _ other sub there found) ∙ and_first (is_live sub e) _ waits.1)) formed;
      numbers = keys_changed (λ (m : Member). m.number) (is_member m.number) (given d) (λ _. refl) s.members;
      names = keys_changed (λ (m : Member). m.subscription) (is_member m.number) (given d) (λ _. refl) s.members;
      ordinals = ordinals_stay s.next_ordinal n (holding e.position held) s.subscriptions (λ k sub. omega arith) well.ordinals;
      uncollected = uncollected_sent s.log s.members s.subscriptions n sub d held m found (turned (map_of.contains_key sub.pending e.position) (and_second (is_live sub e) _ waits.1)) refl
          (same_name m.subscription sub.name member.1 ∙ same_name sub.name n (found_passes (is_named n) s.subscriptions sub found))
          (found_by_number s.next_consumer s.members m well.members member.0) (taken_contained s.durable s.log e waits.0) well.uncollected;
    }) well
  where
    held : Held
    held = record { consumer = m.number; due = due_after now m.ack_timeout }

    d : Delivery
    d = record { message = e; count = count_of sub e.position }

    waits : Contains (visible s) e × (is_waiting sub e ≡ true)
    waits = chosen_waits sub.kind s sub e m eligible.1

    member : Contains s.members m × (is_at sub.name m ≡ true)
    member = chosen_member sub.kind s sub e m eligible.1

-- ---- a member changes

pub well_members : (s : State) (q : Member → Bool) (f : Member → Member) → ((m : Member) → (f m).number ≡ m.number) → ((m : Member) → (f m).subscription ≡ m.subscription) → ((m : Member) (d : Delivery) → Contains (f m).out d → Contains m.out d)
    → IsWellKept s → IsWellKept (record s { members = changed q f s.members })
well_members s q f numbers names fewer well = record {
  ledgered = well.ledgered;
  gone = well.gone;
  authors = well.authors;
  connected = well.connected;
  members = subst (AreGiven s.next_consumer) (sym (keys_changed (λ (m : Member). m.number) q f numbers s.members)) well.members;
  there = subst (λ (ns : List (List ℕ)). AllThere ns s.subscriptions) (sym (keys_changed (λ (m : Member). m.subscription) q f names s.members)) well.there;
  named = well.named;
  ordinals = well.ordinals;
  each = well.each;
  uncollected = uncollected_changed s.log s.members s.subscriptions q f numbers names fewer well.uncollected;
}

-- ---- a member joins

-- the subscription of its name is among those that are left
well_pushed : (s : State) (m : Member) (subs : List Subscription) → m.number ≡ s.next_consumer → m.out ≡ [] → ((name : List ℕ) → is_there s.subscriptions name ≡ true → is_there subs name ≡ true) → is_there subs m.subscription ≡ true
    → AreNamed subs → AreOnce letters s.next_ordinal subs → EachFirst (IsFormed s.log s.durable) subs → ((name : List ℕ) (consumer : ℕ) (p : Position) → holds_in s.subscriptions name consumer p ≡ true → holds_in subs name consumer p ≡ true)
    → IsWellKept s → IsWellKept (record s { subscriptions = subs; members = s.members ++ m ∷ []; next_consumer = s.next_consumer + 1 })
well_pushed s m subs is none keeps there named ordinals each holds well = record {
  ledgered = well.ledgered;
  gone = well.gone;
  authors = well.authors;
  connected = well.connected;
  members = given_pushed (λ (m : Member). m.number) s.next_consumer s.members m is well.members;
  there = subst (λ (ns : List (List ℕ)). AllThere ns subs) (sym (map-append (λ (m : Member). m.subscription) s.members (m ∷ []))) (one_more (names_of s.members) (all_there (names_of s.members) s.subscriptions subs keeps well.there));
  named = named;
  ordinals = ordinals;
  each = each;
  uncollected = uncollected_pushed s.log s.members subs m none (uncollected_same s.log s.members s.subscriptions subs holds well.uncollected);
}
  where
    one_more : (ns : List (List ℕ)) → AllThere ns subs → AllThere (ns ++ m.subscription ∷ []) subs
    one_more [] all = (there, tt)
    one_more (n ∷ ns) all = (all.0, one_more ns all.1)

pub well_joined : (s : State) (kind : Kind) (ranges : Option (List HashRange)) (initial : Initial) (m : Member) → m.number ≡ s.next_consumer → m.out ≡ [] → IsWellKept s → IsWellKept (with_member s kind ranges initial m)
well_joined s kind ranges initial m is none well = by (find (is_named m.subscription) s.subscriptions) refl
  where
    new : Subscription
    new = new_subscription m.subscription kind ranges m.number initial s.log

    join : Subscription → Subscription
    join = joining kind ranges m.number

    by : (o : Option Subscription) → find (is_named m.subscription) s.subscriptions ≡ o
        → IsWellKept (record s { subscriptions = cond (is_some o) (changed (is_named m.subscription) join s.subscriptions) (placed new s.subscriptions); members = s.members ++ m ∷ []; next_consumer = s.next_consumer + 1 })
    by (Some sub) found =
        let after : List Subscription = changed (is_named m.subscription) join s.subscriptions in
        let stays : (name : List ℕ) → is_there after name ≡ is_there s.subscriptions name = λ name. any_changed (is_named name) (is_named m.subscription) join (λ _. refl) s.subscriptions in
        well_pushed s m after is none (λ name at. stays name ∙ at) (stays m.subscription ∙ sym (any_found (is_named m.subscription) s.subscriptions) ∙ ap is_some found)
        (named_changed m.subscription join s.subscriptions (λ _. refl) well.named)
        (ordinals_stay s.next_ordinal m.subscription join s.subscriptions (λ k sub. omega arith) well.ordinals)
        (each_changed (IsFormed s.log s.durable) (IsFormed s.log s.durable) m.subscription join s.subscriptions (λ _. refl) (λ sub _ formed. formed)
        (λ sub _ formed. formed_with s.log s.durable kind (join sub).shares sub.safe sub formed.safe formed) well.each)
        (λ name consumer p. holds_kept m.subscription name consumer p join s.subscriptions (λ _. refl) (λ _. refl)) well
    by None absent =
        let after : List Subscription = placed new s.subscriptions in
        well_pushed s m after is none (λ name. any_inserted (is_named name) s.subscriptions _ new) (inserted_there (is_named m.subscription) s.subscriptions _ new (is_same_name m.subscription m.subscription refl))
        (named_placed new s.subscriptions absent well.named)
        (once_fewer letters s.next_ordinal s.subscriptions after (λ k. let same : times_among letters k after ≡ times_among letters k s.subscriptions = among_inserted letters k s.subscriptions _ new refl in omega arith) well.ordinals)
        (each_placed (IsFormed s.log s.durable) (IsFormed s.log s.durable) new s.subscriptions absent (formed_new s.log s.durable m.subscription kind ranges m.number initial) (λ sub _ formed. formed) well.each)
        (λ name consumer p. holds_placed name consumer p new s.subscriptions absent) well

-- ---- a member leaves

pub well_left : (s : State) (consumer : ℕ) (m : Member) → find (is_member consumer) s.members ≡ Some m → IsWellKept s → IsWellKept (without_member s consumer m.subscription)
well_left s consumer m found well = record {
  ledgered = well.ledgered;
  gone = well.gone;
  authors = well.authors;
  connected = well.connected;
  members = given_removed (λ (m : Member). m.number) s.next_consumer (is_member consumer) s.members well.members;
  there = each_key_removed (λ (m : Member). m.subscription) (λ name. is_there (changed (is_named m.subscription) (leaving consumer) s.subscriptions) name ≡ true) (is_member consumer) s.members
      (all_there (names_of s.members) s.subscriptions (changed (is_named m.subscription) (leaving consumer) s.subscriptions)
      (λ name at. any_changed (is_named name) (is_named m.subscription) (leaving consumer) (λ _. refl) s.subscriptions ∙ at) well.there);
  named = named_changed m.subscription (leaving consumer) s.subscriptions (λ _. refl) well.named;
  ordinals = ordinals_stay s.next_ordinal m.subscription (leaving consumer) s.subscriptions (λ k sub. omega arith) well.ordinals;
  each = each_changed (IsFormed s.log s.durable) (IsFormed s.log s.durable) m.subscription (leaving consumer) s.subscriptions (λ _. refl) (λ sub _ formed. formed)
      (λ sub _ formed. formed_leaving s.log s.durable consumer sub formed) well.each;
  uncollected = uncollected_left s.log s.members s.subscriptions m.subscription consumer (others_left s.next_consumer consumer s.members m well.members found) well.uncollected;
}

-- ---- a subscription without members goes

none_at : (n : List ℕ) (members : List Member) → seats_at members n ≡ 0 → AllByRecursion (λ m. is_at n m ≡ false) members
none_at n [] nobody = tt
none_at n (m ∷ members) nobody = by (is_at n m) refl nobody (none_at n members)
  where
    by : (b : Bool) → is_at n m ≡ b → length (cond b (m ∷ filter (is_at n) members) (filter (is_at n) members)) ≡ 0 → (seats_at members n ≡ 0 → AllByRecursion (λ m. is_at n m ≡ false) members) → AllByRecursion (λ m. is_at n m ≡ false) (m ∷ members)
    by true here nobody rest = absurd (omega arith)
    by false elsewhere nobody rest = (elsewhere, rest nobody)

still_there : (n : List ℕ) (subs : List Subscription) (sub : Subscription) → find (is_named n) subs ≡ Some sub → (members : List Member) → AllByRecursion (λ m. is_at n m ≡ false) members → AllThere (names_of members) subs → AllThere (names_of members) (removed (is_named n) subs)
still_there n subs sub found [] none all = tt
still_there n subs sub found (m ∷ members) none all = (
  any_removed (is_named m.subscription) (is_named n) subs sub found (other_name m.subscription n sub none.0 (found_passes (is_named n) subs sub found)) ∙ all.0,
  still_there n subs sub found members none.1 all.1,
)

pub well_dropped : (s : State) (n : List ℕ) (sub : Subscription) → find (is_named n) s.subscriptions ≡ Some sub → seats_at s.members n ≡ 0 → IsWellKept s → IsWellKept (record s { subscriptions = removed (is_named n) s.subscriptions })
well_dropped s n sub found nobody well =
    let none = none_at n s.members nobody in
    record {
      ledgered = well.ledgered;
      gone = well.gone;
      authors = well.authors;
      connected = well.connected;
      members = well.members;
      there = still_there n s.subscriptions sub found s.members none well.there;
      named = sorted_removed (λ (sub : Subscription). sub.name) name_order (is_named n) s.subscriptions well.named;
      ordinals = once_fewer letters s.next_ordinal s.subscriptions (removed (is_named n) s.subscriptions) (λ k. among_removed letters k (is_named n) s.subscriptions) well.ordinals;
      each = λ name other at. well.each name other (found_left name n s.subscriptions other well.named at).0;
      uncollected = λ m at d out.
          let one = well.uncollected m at d out in
          (one.0, holds_removed n m.subscription m.number d.message.position s.subscriptions (All-contains (λ m. is_at n m ≡ false) s.members m (All-from_recursion (λ m. is_at n m ≡ false) s.members none) at) ∙ one.1);
    }
