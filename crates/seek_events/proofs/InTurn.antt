-- A topic while live messages are skipped in turn.
use Rattle.std.proofs.Common.{◌≡◌, ℕ, suc, ◌+◌, ◌<◌, ◌≤◌, List, [], ◌∷◌, ◌++◌, map, take, Some, None, Option, Bool, true, false, cond, get_or, slice_get, refl, ap, ap₂, ◌∙◌, sym, subst, arith, true≢false}
use Rattle.std.specs.Prelude.{not, drop, if◌then◌else◌, IsSomeAnd}
use Rattle.std.specs.List.{find, position}
use Rattle.std.specs.Option.{option_map}
use Rattle.position_core.specs.declared.position.Position.{Position}
use Rattle.position_core.specs.declared.message.Entry.{Entry}
use Rattle.delivery_machine.specs.State.{State, Member, Subscription}
use Rattle.delivery_machine.specs.Words.{changed, has_subscription, is_at, is_live, is_named}
use Rattle.delivery_machine.specs.Acknowledging.{acknowledging, forgetting, is_one_of, with_acknowledged, without}
use Rattle.delivery_machine.specs.declared.delivery.Delivery.{Delivery}
use Rattle.position_core.specs.declared.fault.Fault.TheVariants.{NoSuchSubscription}
use Rattle.delivery_machine.specs.Refusals.{absence_refused}
use Rattle.delivery_machine.specs.Run.{Answers}
use Rattle.delivery_machine.specs.declared.event.Event.TheVariants.{Skip}
use Rattle.delivery_machine.specs.declared.reply.Reply.TheVariants.{Done}
use Rattle.delivery_machine.specs.Laws.{IsReached}
use Rattle.delivery_machine.specs.Seeking.{first_live}
use Rattle.topic_served.proofs.Chaining.{acknowledged_both}
use Rattle.topic_served.proofs.Standing.{apart, index_there}
use Rattle.topic_subscriptions.specs.Placed.{IsPlacedIn, IsRising, Placed, is_placed, sub_in}
use Rattle.topic_parts.specs.Parts.{HasLiveBefore, log_of}
use Rattle.topic_parts.proofs.Changing.{named_sub, placed_there}
use Rattle.topic_served.specs.Served.{IsSettled, state_in}
use Rattle.topic_served.specs.declared.served.Served.{Served}
use Rattle.topic_parts.proofs.Forgotten.{filter_all}
use Rattle.topic_served.proofs.Merging.{absorbing}
use Rattle.topic_served.proofs.Telling.{one_stands}
use Rattle.seek_events.specs.Live.{IsFirstLive, SkipsAt, SkipsFirst}
use Rattle.seek_events.proofs.Skipped.{all_taken, filtered_none, live_of, one_taken, reached_skip, skipped_one}

-- no message before the first live one is live
pub none_live_before : (served : Served) (name : List ℕ) (place index : ℕ) → Some place ≡ position (is_placed name) served.parts.subscriptions.items → IsFirstLive served place index → HasLiveBefore served.parts place index → ⊥
none_live_before served name place index there first gap =
    let p = one_stands (is_placed name) served.parts.subscriptions.items place there in
    let live = gap p.0 p.1 in
    true≢false (sym live.2 ∙ (first p.0 p.1).least live.0 (omega arith) (omega (arith, live.1)))

module _ (served : Served) (name : List ℕ) (place : ℕ) (rising : IsRising (log_of served.parts)) (settled : IsSettled served) (there : Some place ≡ position (is_placed name) served.parts.subscriptions.items) where
  pub one : (p : Placed) × (Some p ≡ slice_get served.parts.subscriptions.items place) × (p ≡ get_or served.parts.subscriptions.items place p)
  one = one_stands (is_placed name) served.parts.subscriptions.items place there

  placed : IsPlacedIn (log_of served.parts) served.parts.members.members one.0
  placed = placed_there (log_of served.parts) served.parts.subscriptions.items name place there served.parts.members.members one.0 settled.bound.tied one.2

  pub named : find (is_named name) (state_in served).subscriptions ≡ Some (sub_in (log_of served.parts) one.0)
  named = named_sub (log_of served.parts) served.parts.subscriptions.items name place there one.0 one.2

  -- the first live message begins what is live
  pub begins_with : (index : ℕ) (e : Entry) → IsFirstLive served place index → index < (state_in served).durable → slice_get (log_of served.parts) index ≡ Some e
      → live_of (state_in served) (sub_in (log_of served.parts) one.0) ≡ e.position ∷ live_of (state_in served) (acknowledging (e.position ∷ []) (sub_in (log_of served.parts) one.0))
  begins_with index e first low at =
      skipped_one (state_in served) (sub_in (log_of served.parts) one.0) index e at low
      (placed.live index e at ∙ (first one.0 one.1).live)
      (λ k d lt stands. placed.live k d stands ∙ (first one.0 one.1).least k (omega arith) lt)
      (λ k d other stands. apart (log_of served.parts) e.position index rising (index_there (log_of served.parts) index e rising at) k d other stands)

  pub reached : (index : ℕ) (e : Entry) → IsFirstLive served place index → index < (state_in served).durable → slice_get (log_of served.parts) index ≡ Some e → IsReached (with_acknowledged (state_in served) name (e.position ∷ []))
  reached index e first low at = reached_skip (state_in served) name (sub_in (log_of served.parts) one.0) e.position _ settled.reached named (begins_with index e first low at)

  -- where the first live one is not visible, none is
  pub nothing_live : (index : ℕ) → IsFirstLive served place index → (state_in served).durable ≤ index → live_of (state_in served) (sub_in (log_of served.parts) one.0) ≡ []
  nothing_live index first high =
      ap (map (λ (e : Entry). e.position))
      (filtered_none (is_live (sub_in (log_of served.parts) one.0)) (state_in served).durable (log_of served.parts) (λ k d lt stands. placed.live k d stands ∙ (first one.0 one.1).least k (omega arith) (omega (arith, lt, high))))

-- ---- in turn

map_same : {A : Type 0} (f : A → A) (xs : List A) → ((x : A) → f x ≡ x) → map f xs ≡ xs
map_same f [] same = refl
map_same f (x ∷ xs) same = ap₂ (λ y ys. y ∷ ys) (same x) (map_same f xs same)

forget_none : (name : List ℕ) (m : Member) → forgetting name [] m ≡ m
forget_none name m = by (is_at name m)
  where
    by : (b : Bool) → cond b (record m { out = without [] m.out }) m ≡ m
    by true = ap (λ (out : List Delivery). record m { out = out }) (filter_all (λ (d : Delivery). not (is_one_of [] d.message.position)) m.out (λ _ _. refl))
    by false = refl

-- to acknowledge nothing changes nothing
none_acknowledged : (s : State) (name : List ℕ) (sub : Subscription) → find (is_named name) s.subscriptions ≡ Some sub → with_acknowledged s name [] ≡ s
none_acknowledged s name sub is = absorbing s name sub [] (record {
  named = is;
  acknowledged = λ q one_of. absurd (true≢false (sym one_of));
  pending = λ q one_of. absurd (true≢false (sym one_of));
  counts = λ q one_of. absurd (true≢false (sym one_of));
  out = map_same (forgetting name []) s.members (forget_none name);
})

find_changed : {A : Type 0} (p : A → Bool) (f : A → A) (xs : List A) (x : A) → ((y : A) → p (f y) ≡ p y) → find p xs ≡ Some x → find p (changed p f xs) ≡ Some (f x)
find_changed p f [] x keeps is = cc
find_changed {A} p f (y ∷ ys) x keeps is = by (p y) refl is (find_changed p f ys x keeps)
  where
    by : (b : Bool) → p y ≡ b → cond b (Some y) (find p ys) ≡ Some x → (find p ys ≡ Some x → find p (changed p f ys) ≡ Some (f x)) → find p (cond b (f y ∷ ys) (y ∷ changed p f ys)) ≡ Some (f x)
    by true passes here rest = ap (λ b. cond b (Some (f y)) (find p ys)) (keeps y ∙ passes) ∙ ap (λ (o : Option A). option_map f o) here
    by false fails later rest = ap (λ b. cond b (Some y) (find p (changed p f ys))) fails ∙ rest later

-- so the topic stands after so many
pub record IsSkipped (first served : Served) (name : List ℕ) (place count done : ℕ) : Type 0 where
  pub settled : IsSettled served
  pub there : Some place ≡ position (is_placed name) served.parts.subscriptions.items
  pub low : done ≤ count
  pub sub : Subscription
  pub was : find (is_named name) (state_in first).subscriptions ≡ Some sub
  pub state : state_in served ≡ with_acknowledged (state_in first) name (take done (live_of (state_in first) sub))
  pub now : Subscription
  pub is : find (is_named name) (state_in served).subscriptions ≡ Some now
  pub left : live_of (state_in served) now ≡ drop done (live_of (state_in first) sub)

pub begins : (served : Served) (name : List ℕ) (place count : ℕ) → IsSettled served → Some place ≡ position (is_placed name) served.parts.subscriptions.items → IsSkipped served served name place count 0
begins served name place count settled there =
    let p = one_stands (is_placed name) served.parts.subscriptions.items place there in
    let found = named_sub (log_of served.parts) served.parts.subscriptions.items name place there p.0 p.2 in
    record {
      settled = settled;
      there = there;
      low = omega arith;
      sub = sub_in (log_of served.parts) p.0;
      was = found;
      state = sym (none_acknowledged (state_in served) name (sub_in (log_of served.parts) p.0) found);
      now = sub_in (log_of served.parts) p.0;
      is = found;
      left = refl;
    }

some_is : (a b : Subscription) → ◌≡◌ {A = Option Subscription} (Some a) (Some b) → a ≡ b
some_is a b e = cc

pub goes_on : (first old new : Served) (name : List ℕ) (place count done index : ℕ) → IsRising (log_of old.parts) → IsSkipped first old name place count done → done < count → IsFirstLive old place index → index < (state_in old).durable
    → IsSettled new → Some place ≡ position (is_placed name) new.parts.subscriptions.items → SkipsAt (log_of old.parts) index name (state_in old) (state_in new) → IsSkipped first new name place count (done + 1)
goes_on first old new name place count done index rising so_far more live low settled there skips = record {
  settled = settled;
  there = there;
  low = omega (arith, more);
  sub = so_far.sub;
  was = so_far.was;
  state =
      skips.2
      ∙ ap (λ (s : State). with_acknowledged s name (skips.0.position ∷ [])) so_far.state
      ∙ acknowledged_both (state_in first) name (take done all) (skips.0.position ∷ [])
      ∙ ap (with_acknowledged (state_in first) name) (sym taken.0 ∙ ap (λ (n : ℕ). take n all) (next done));
  now = acknowledging (skips.0.position ∷ []) here;
  is = ap (λ (s : State). find (is_named name) s.subscriptions) skips.2 ∙ find_changed (is_named name) (acknowledging (skips.0.position ∷ [])) (state_in old).subscriptions here (λ _. refl) found;
  left = ap (λ (s : State). live_of s (acknowledging (skips.0.position ∷ []) here)) skips.2 ∙ sym taken.1 ∙ ap (λ (n : ℕ). drop n all) (next done);
}
  where
    all : List Position
    all = live_of (state_in first) so_far.sub

    here : Subscription
    here = sub_in (log_of old.parts) (one old name place rising so_far.settled so_far.there).0

    found : find (is_named name) (state_in old).subscriptions ≡ Some (sub_in (log_of old.parts) (one old name place rising so_far.settled so_far.there).0)
    found = named old name place rising so_far.settled so_far.there

    next : (n : ℕ) → suc n ≡ n + 1
    next n = omega arith

    begun : drop done (live_of (state_in first) so_far.sub) ≡ skips.0.position ∷ live_of (state_in old) (acknowledging (skips.0.position ∷ []) (sub_in (log_of old.parts) (one old name place rising so_far.settled so_far.there).0))
    begun =
        sym so_far.left
        ∙ ap (live_of (state_in old)) (some_is so_far.now (sub_in (log_of old.parts) (one old name place rising so_far.settled so_far.there).0) (sym so_far.is ∙ found))
        ∙ begins_with old name place rising so_far.settled so_far.there index skips.0 live low skips.1

    taken : (take (suc done) (live_of (state_in first) so_far.sub) ≡ take done (live_of (state_in first) so_far.sub) ++ skips.0.position ∷ []) × (drop (suc done) (live_of (state_in first) so_far.sub) ≡ live_of (state_in old) (acknowledging (skips.0.position ∷ []) (sub_in (log_of old.parts) (one old name place rising so_far.settled so_far.there).0)))
    taken = one_taken done (live_of (state_in first) so_far.sub) _ skips.0.position begun

skips_first : (first served : Served) (name : List ℕ) (place count done : ℕ) (so_far : IsSkipped first served name place count done) → take done (live_of (state_in first) so_far.sub) ≡ take count (live_of (state_in first) so_far.sub) → SkipsFirst count name (state_in first) (state_in served)
skips_first first served name place count done so_far same =
    subst (λ (o : Option Subscription). IsSomeAnd o (λ sub. state_in served ≡ with_acknowledged (state_in first) name (first_live (state_in first) sub count))) (sym so_far.was)
    (so_far.state ∙ ap (with_acknowledged (state_in first) name) same)

-- it ends with so many
pub ends : (first served : Served) (name : List ℕ) (place count done : ℕ) → IsSkipped first served name place count done → count ≤ done → SkipsFirst count name (state_in first) (state_in served)
ends first served name place count done so_far high =
    let same : done ≡ count = omega (arith, so_far.low, high) in
    skips_first first served name place count done so_far (ap (λ (n : ℕ). take n (live_of (state_in first) so_far.sub)) same)

-- or where none is left
pub ends_early : (first served : Served) (name : List ℕ) (place count done index : ℕ) → IsRising (log_of served.parts) → IsSkipped first served name place count done → IsFirstLive served place index → (state_in served).durable ≤ index → SkipsFirst count name (state_in first) (state_in served)
ends_early first served name place count done index rising so_far live high =
    skips_first first served name place count done so_far
    (all_taken done count (live_of (state_in first) so_far.sub)
    (sym so_far.left
    ∙ ap (live_of (state_in served)) (some_is so_far.now (sub_in (log_of served.parts) (one served name place rising so_far.settled so_far.there).0) (sym so_far.is ∙ named served name place rising so_far.settled so_far.there))
    ∙ nothing_live served name place rising so_far.settled so_far.there index live high) so_far.low)

-- ---- the answer

pub no_absence : (s : State) (name : List ℕ) (b : Bool) → has_subscription s name ≡ b → absence_refused s name ≡ (if b then None else Some NoSuchSubscription)
no_absence s name b is = ap (λ (c : Bool). if c then None else Some NoSuchSubscription) is

skipped_some : (o : Option Subscription) (P Q : Subscription → Type 0) → ((x : Subscription) → P x → Q x) → IsSomeAnd o P → IsSomeAnd o Q
skipped_some None P Q more none = absurd none
skipped_some (Some x) P Q more holds = more x holds

pub skip_answers : (s t : State) (name : List ℕ) (count : ℕ) → has_subscription s name ≡ true → SkipsFirst count name s t → Answers s (Skip name count) Done t
skip_answers s t name count has skips =
    (no_absence s name true has, skipped_some (find (is_named name) s.subscriptions) (λ sub. t ≡ with_acknowledged s name (first_live s sub count)) (λ sub. (Done ≡ Done) × (t ≡ with_acknowledged s name (first_live s sub count))) (λ _ is. (refl, is)) skips)
