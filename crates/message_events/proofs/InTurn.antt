-- Messages that are acknowledged in turn, each by a step of its consumer.
use Rattle.std.proofs.Common.{◌≡◌, ℕ, ◌+◌, ◌<◌, ◌≤◌, zero, suc, List, [], ◌∷◌, map, length, Some, None, Option, Bool, true, false, cond, slice_get, get_or, set, ◌⊎◌, refl, ap, ap₂, ◌∙◌, sym, subst, arith, inl, inr, true≢false}
use Rattle.std.specs.Prelude.{◌||◌, not, min, is_some, nat_lt, if◌then◌else◌, IsSomeAnd}
use Rattle.std.specs.List.{find, list_any, position, position_or_len}
use Rattle.std.specs.Str.{bytes_eq}
use Rattle.std.specs.FinSet as set_of
use Rattle.std.proofs.lemmas.Bool.{cases_lt}
use Rattle.std.proofs.lemmas.List.{get_or-set_same, length-set}
use Rattle.std.proofs.lemmas.Option.{slice_get_within, slice_get-get_or, get_or_from_slice_get}
use Rattle.position_core.specs.declared.position.Position.{Position}
use Rattle.position_core.specs.declared.message.Entry.{Entry}
use Rattle.position_core.specs.declared.fault.Fault.TheVariants.{NoSession, NoSuchMessage}
use Rattle.position_core.specs.Position.{same_position, positions_total}
use Rattle.log_pieces.specs.Pieces.{index_of}
use Rattle.delivery_machine.specs.State.{State, Member, Subscription}
use Rattle.delivery_machine.specs.Words.{changed, has_position, is_member, is_named, visible}
use Rattle.delivery_machine.specs.Acknowledging.{acknowledging, forgetting, is_one_of, with_acknowledged, without}
use Rattle.delivery_machine.specs.Places.{positions_at}
use Rattle.delivery_machine.specs.Refusals.{acking_refused}
use Rattle.delivery_machine.specs.Laws.{IsReached}
use Rattle.delivery_machine.specs.Run.{Answers}
use Rattle.delivery_machine.specs.declared.event.Event.TheVariants.{Ack}
use Rattle.delivery_machine.specs.declared.reply.Reply.TheVariants.{Done}
use Rattle.machine_laws.proofs.ReachedOn.{reached_step}
use Rattle.delivery_machine.proofs.Messages.{one_of_itself, position_itself}
use Rattle.delivery_machine.proofs.Places.{changed-position}
use Rattle.topic_subscriptions.specs.Placed.{IsRising, Placed, is_placed, sub_in}
use Rattle.topic_subscriptions.proofs.Links.{contains_at}
use Rattle.topic_parts.specs.Parts.{HasLiveBefore, log_of, state_of}
use Rattle.topic_parts.specs.declared.parts.Parts.{Parts}
use Rattle.topic_parts.proofs.Mapped.{position_mapped}
use Rattle.topic_parts.proofs.Changing.{placed_there}
use Rattle.topic_served.specs.Served.{IsSettled, state_in}
use Rattle.topic_served.specs.Firsts.{firsts}
use Rattle.topic_served.specs.declared.served.Served.{Served}
use Rattle.topic_served.proofs.Merging.{absorbing, merging}
use Rattle.topic_served.proofs.Over.{one_of_firsts, over_first}
use Rattle.topic_served.proofs.Settled.{well_of}
use Rattle.topic_served.proofs.Telling.{at_place, one_stands}
use Rattle.topic_served.proofs.Visible.{any_taken, below}
use Rattle.message_events.specs.Consumers.{AcknowledgesAt, IsConsumerOf, IsFirstMissing}

-- ---- one step

some_and : {A : Type 0} (o : Option A) (P Q : A → Type 0) → ((x : A) → P x → Q x) → IsSomeAnd o P → IsSomeAnd o Q
some_and None P Q more none = absurd none
some_and (Some x) P Q more holds = more x holds

is_there : {A : Type 0} (o : Option A) (P : A → Type 0) → IsSomeAnd o P → is_some o ≡ true
is_there None P none = absurd none
is_there (Some x) P holds = refl

pub reached_ack : (s : State) (consumer : ℕ) (name : List ℕ) (q : Position) (k : ℕ) → IsReached s → IsConsumerOf s consumer name → index_of q s.log ≡ Some k → k < s.durable → IsReached (with_acknowledged s name (q ∷ []))
reached_ack s consumer name q k reached there stands low = reached_step s (Ack consumer q) Done (with_acknowledged s name (q ∷ [])) answers reached
  where
    seen : list_any (has_position q) (visible s) ≡ true
    seen = any_taken (has_position q) s.durable s.log k stands ∙ below k s.durable s.durable refl low

    not_refused : acking_refused s consumer q ≡ None
    not_refused =
        ap₂ (λ (a b : Bool). if not a then Some NoSession else if not b then Some NoSuchMessage else None)
        (is_there (find (is_member consumer) s.members) (λ (m : Member). m.subscription ≡ name) there) seen

    answers : Answers s (Ack consumer q) Done (with_acknowledged s name (q ∷ []))
    answers = (not_refused, (refl, some_and (find (is_member consumer) s.members) (λ (m : Member). m.subscription ≡ name) (λ (m : Member). with_acknowledged s name (q ∷ []) ≡ with_acknowledged s m.subscription (q ∷ [])) (λ m is. ap (λ (n : List ℕ). with_acknowledged s n (q ∷ [])) (sym is)) there))

-- where all before are acknowledged, no message before is live
pub none_live_before : (served : Served) (name : List ℕ) (place index : ℕ) → Some place ≡ position (is_placed name) served.parts.subscriptions.items → IsFirstMissing served place index → HasLiveBefore served.parts place index → ⊥
none_live_before served name place index there first gap =
    let p = one_stands (is_placed name) served.parts.subscriptions.items place there in
    let live = gap p.0 p.1 in
    true≢false (sym live.2 ∙ ap (λ b. not (b || set_of.contains p.0.buried live.0)) ((first p.0 p.1).before live.0 (omega arith) (omega (arith, live.1))))

-- ---- what a step leaves as it was

find_mapped : (p : Member → Bool) (f : Member → Member) (ms : List Member) (P Q : Member → Type 0) → ((m : Member) → p (f m) ≡ p m) → ((m : Member) → P m → Q (f m)) → IsSomeAnd (find p ms) P → IsSomeAnd (find p (map f ms)) Q
find_mapped p f [] P Q keeps more none = none
find_mapped p f (m ∷ ms) P Q keeps more some = by (p m) refl some (find_mapped p f ms P Q keeps more)
  where
    by : (b : Bool) → p m ≡ b → IsSomeAnd (cond b (Some m) (find p ms)) P → (IsSomeAnd (find p ms) P → IsSomeAnd (find p (map f ms)) Q) → IsSomeAnd (cond (p (f m)) (Some (f m)) (find p (map f ms))) Q
    by true passes holds rest = subst (λ (b : Bool). IsSomeAnd (cond b (Some (f m)) (find p (map f ms))) Q) (sym (keeps m ∙ passes)) (more m holds)
    by false fails later rest = subst (λ (b : Bool). IsSomeAnd (cond b (Some (f m)) (find p (map f ms))) Q) (sym (keeps m ∙ fails)) (rest later)

forgot_number : (name : List ℕ) (ps : List Position) (consumer : ℕ) (m : Member) → is_member consumer (forgetting name ps m) ≡ is_member consumer m
forgot_number name ps consumer m = by (bytes_eq m.subscription name)
  where
    by : (b : Bool) → is_member consumer (cond b (record m { out = without ps m.out }) m) ≡ is_member consumer m
    by true = refl
    by false = refl

forgot_name : (name n : List ℕ) (ps : List Position) (m : Member) → m.subscription ≡ n → (forgetting name ps m).subscription ≡ n
forgot_name name n ps m is = by (bytes_eq m.subscription name)
  where
    by : (b : Bool) → (cond b (record m { out = without ps m.out }) m).subscription ≡ n
    by true = is
    by false = is

pub consumer_stays : (s : State) (consumer : ℕ) (name : List ℕ) (ps : List Position) → IsConsumerOf s consumer name → IsConsumerOf (with_acknowledged s name ps) consumer name
consumer_stays s consumer name ps there =
    find_mapped (is_member consumer) (forgetting name ps) s.members (λ (m : Member). m.subscription ≡ name) (λ (m : Member). m.subscription ≡ name) (forgot_number name ps consumer) (λ m is. forgot_name name name ps m is) there

first_changed : {A : Type 0} (p : A → Bool) (f : A → A) (xs : List A) → ((x : A) → p (f x) ≡ p x) → position_or_len p (changed p f xs) ≡ position_or_len p xs
first_changed p f [] keeps = refl
first_changed {A} p f (x ∷ xs) keeps = by (p x) refl (first_changed p f xs keeps)
  where
    by : (b : Bool) → p x ≡ b → position_or_len p (changed p f xs) ≡ position_or_len p xs → position_or_len p (cond b (f x ∷ xs) (x ∷ changed p f xs)) ≡ cond (not b) (1 + position_or_len p xs) 0
    by true passes rest = ap (λ b. cond (not b) (1 + position_or_len p xs) 0) (keeps x ∙ passes)
    by false fails rest = ap₂ (λ b n. cond (not b) (1 + n) 0) fails rest

length_changed : {A : Type 0} (p : A → Bool) (f : A → A) (xs : List A) → length (changed p f xs) ≡ length xs
length_changed p f [] = refl
length_changed p f (x ∷ xs) = by (p x) (length_changed p f xs)
  where
    by : (b : Bool) → length (changed p f xs) ≡ length xs → length (cond b (f x ∷ xs) (x ∷ changed p f xs)) ≡ length (x ∷ xs)
    by true rest = refl
    by false rest = ap suc rest

position_changed : {A : Type 0} (p : A → Bool) (f : A → A) (xs : List A) → ((x : A) → p (f x) ≡ p x) → position p (changed p f xs) ≡ position p xs
position_changed p f xs keeps = ap₂ (λ i n. cond (nat_lt i n) (Some i) None) (first_changed p f xs keeps) (length_changed p f xs)

-- the subscription keeps its place
pub place_stays : (old new : Parts) (name : List ℕ) (place : ℕ) (ps : List Position) → state_of new ≡ with_acknowledged (state_of old) name ps → Some place ≡ position (is_placed name) old.subscriptions.items → Some place ≡ position (is_placed name) new.subscriptions.items
place_stays old new name place ps is there =
    there
    ∙ sym (position_mapped (sub_in (log_of old)) (is_placed name) (is_named name) (λ _. refl) old.subscriptions.items)
    ∙ sym (position_changed (is_named name) (acknowledging ps) (state_of old).subscriptions (λ _. refl))
    ∙ ap (λ (s : State). position (is_named name) s.subscriptions) (sym is)
    ∙ position_mapped (sub_in (log_of new)) (is_placed name) (is_named name) (λ _. refl) new.subscriptions.items

-- ---- the first messages

pub firsts_have : (n : ℕ) (log : List Entry) (k : ℕ) (e : Entry) → slice_get log k ≡ Some e → k < n → is_one_of (firsts n log) e.position ≡ true
firsts_have zero log k e at low = absurd (omega (arith, low))
firsts_have (suc n) [] k e at low = cc
firsts_have (suc n) (x ∷ log) zero e at low =
    let is : x ≡ e = cc (at) in
    ap (λ (d : Entry). same_position d.position x.position || is_one_of (firsts n log) d.position) (sym is) ∙ ap (λ b. b || is_one_of (firsts n log) x.position) (position_itself x.position)
firsts_have (suc n) (x ∷ log) (suc k) e at low = or_true (same_position e.position x.position) (firsts_have n log k e at (omega (arith, low)))
  where
    or_true : (a : Bool) {b : Bool} → b ≡ true → (a || b) ≡ true
    or_true true is = refl
    or_true false is = is

firsts_more : (m n : ℕ) (log : List Entry) → m ≤ n → (q : Position) → is_one_of (firsts m log) q ≡ true → is_one_of (firsts n log) q ≡ true
firsts_more m n log le q one =
    let at = one_of_firsts m log q one in
    subst (λ (p : Position). is_one_of (firsts n log) p ≡ true) at.4 (firsts_have n log at.0 at.1 at.2 (omega (arith, at.3, le)))

-- ---- all before an index

-- so the topic stands while messages are acknowledged in turn up to the end
pub record IsUpTo (first served : Served) (consumer : ℕ) (name : List ℕ) (place end index : ℕ) : Type 0 where
  pub settled : IsSettled served
  pub whose : IsConsumerOf (state_in served) consumer name
  pub there : Some place ≡ position (is_placed name) served.parts.subscriptions.items
  pub state : state_in served ≡ with_acknowledged (state_in first) name (firsts (min index end) (log_of first.parts))
  pub missing : IsFirstMissing served place index

-- the first messages that are acknowledged need not be again
pub over_again : (served : Served) (name : List ℕ) (place index n : ℕ) → IsRising (log_of served.parts) → IsSettled served → Some place ≡ position (is_placed name) served.parts.subscriptions.items → IsFirstMissing served place index → n ≤ index
    → with_acknowledged (state_in served) name (firsts n (log_of served.parts)) ≡ state_in served
over_again served name place index n rising settled there missing le =
    let p = one_stands (is_placed name) served.parts.subscriptions.items place there in
    let x = p.0 in
    absorbing (state_in served) name (sub_in (log_of served.parts) x) (firsts n (log_of served.parts))
    (over_first served.parts name place x n (well_of (state_in served) settled.reached) rising there p.1
    (placed_there (log_of served.parts) served.parts.subscriptions.items name place there served.parts.members.members x settled.bound.tied p.2)
    (λ k low. (missing x p.1).before k (omega arith) (omega (arith, low, le))))

-- it begins with those that were acknowledged before
pub begins : (served : Served) (consumer : ℕ) (name : List ℕ) (place end index : ℕ) → IsRising (log_of served.parts) → IsSettled served → IsConsumerOf (state_in served) consumer name
    → Some place ≡ position (is_placed name) served.parts.subscriptions.items → IsFirstMissing served place index → IsUpTo served served consumer name place end index
begins served consumer name place end index rising settled whose there missing = record {
  settled = settled;
  whose = whose;
  there = there;
  state = sym (over_again served name place index (min index end) rising settled there missing (omega arith));
  missing = missing;
}

some_is : {A : Type 0} (a b : A) → ◌≡◌ {A = Option A} (Some a) (Some b) → a ≡ b
some_is a b e = cc

-- what is acknowledged of a subscription at a place
contains_there : (t : Parts) (place : ℕ) (x : Placed) (sub : Subscription) (k : ℕ) (e : Entry) → IsRising (log_of t) → Some x ≡ slice_get t.subscriptions.items place → slice_get (state_of t).subscriptions place ≡ Some sub → slice_get (log_of t) k ≡ Some e → set_of.contains x.places k ≡ set_of.contains sub.acknowledged e.position
contains_there t place x sub k e rising at is stands =
    sym (contains_at (log_of t) x.places k e rising stands)
    ∙ ap (λ (s : Subscription). set_of.contains s.acknowledged e.position) (some_is (sub_in (log_of t) x) sub (sym (at_place t place x at) ∙ is))

slice_changed : {A : Type 0} (p : A → Bool) (f : A → A) (xs : List A) (i : ℕ) (x : A) → position p xs ≡ Some i → slice_get xs i ≡ Some x → slice_get (changed p f xs) i ≡ Some (f x)
slice_changed p f xs i x there at =
    let low = slice_get_within xs i x at in
    ap (λ ys. slice_get ys i) (changed-position p f xs i x there)
    ∙ slice_get-get_or (set xs i (f (get_or xs i x))) i (f x) (omega (arith, low, length-set xs i (f (get_or xs i x))))
    ∙ ap (λ y. Some y) (get_or-set_same xs i (f (get_or xs i x)) (f x) low ∙ ap f (get_or_from_slice_get xs i x x at))

or_right_true : (a : Bool) → (a || (true || false)) ≡ true
or_right_true true = refl
or_right_true false = refl

-- once the first that is missing is acknowledged, the next one stands later
pub later_missing : (old new : Served) (name : List ℕ) (place index next : ℕ) → IsRising (log_of old.parts) → Some place ≡ position (is_placed name) old.parts.subscriptions.items
    → IsFirstMissing old place index → AcknowledgesAt (log_of old.parts) index name (state_in old) (state_in new) → IsFirstMissing new place next → index < next
later_missing old new name place index next rising there missing is missing_next = elim (cases_lt index next) [
  | inl less ↦ less
  | inr not_less ↦ absurd (true≢false (sym (inside next (omega (arith, not_less))) ∙ ((missing_next y.0 y.1).missing)))
]
  where
    x : (p : Placed) × (Some p ≡ slice_get old.parts.subscriptions.items place) × (p ≡ get_or old.parts.subscriptions.items place p)
    x = one_stands (is_placed name) old.parts.subscriptions.items place there

    e : Entry
    e = is.0

    log_is : log_of new.parts ≡ log_of old.parts
    log_is = ap (λ (s : State). s.log) is.2

    there_new : Some place ≡ position (is_placed name) new.parts.subscriptions.items
    there_new = place_stays old.parts new.parts name place (e.position ∷ []) is.2 there

    y : (p : Placed) × (Some p ≡ slice_get new.parts.subscriptions.items place) × (p ≡ get_or new.parts.subscriptions.items place p)
    y = one_stands (is_placed name) new.parts.subscriptions.items place there_new

    -- the one at the index, and all before it
    inside : (k : ℕ) → k ≤ index → set_of.contains y.0.places k ≡ true
    inside k low =
        let d : Entry = get_or (log_of old.parts) k e in
        let within : k < length (log_of old.parts) = omega (arith, low, slice_get_within (log_of old.parts) index e is.1) in
        let at : slice_get (log_of old.parts) k ≡ Some d = slice_get-get_or (log_of old.parts) k e within in
        let sub : Subscription = sub_in (log_of old.parts) x.0 in
        let new_sub = ap (λ (s : State). slice_get s.subscriptions place) is.2
        ∙ slice_changed (is_named name) (acknowledging (e.position ∷ [])) (state_in old).subscriptions place sub (position_mapped (sub_in (log_of old.parts)) (is_placed name) (is_named name) (λ _. refl) old.parts.subscriptions.items ∙ sym there) (at_place old.parts place x.0 x.1) in
        contains_there new.parts place y.0 (acknowledging (e.position ∷ []) sub) k d (subst (λ (l : List Entry). IsRising l) (sym log_is) rising) y.1 new_sub (ap (λ (l : List Entry). slice_get l k) log_is ∙ at)
        ∙ set_of.contains-union positions_total (positions_at (log_of old.parts) x.0.places) (set_of.from_list (e.position ∷ [])) d.position
        ∙ ap (λ b. set_of.contains (positions_at (log_of old.parts) x.0.places) d.position || b) (set_of.contains-from_list positions_total (e.position ∷ []) d.position)
        ∙ by k low d at (cases_lt k index)
      where
        by : (k : ℕ) → k ≤ index → (d : Entry) → slice_get (log_of old.parts) k ≡ Some d → (k < index) ⊎ (index ≤ k) → (set_of.contains (positions_at (log_of old.parts) x.0.places) d.position || is_one_of (e.position ∷ []) d.position) ≡ true
        by k low d at (inl before) = ap (λ b. b || is_one_of (e.position ∷ []) d.position) (contains_at (log_of old.parts) x.0.places k d rising at ∙ (missing x.0 x.1).before k (omega arith) before)
        by k low d at (inr not_before) =
            let same : k ≡ index = omega (arith, low, not_before) in
            let d_is : d ≡ e = some_is d e (sym at ∙ ap (λ (i : ℕ). slice_get (log_of old.parts) i) same ∙ is.1) in
            ap (λ b. set_of.contains (positions_at (log_of old.parts) x.0.places) d.position || (b || false)) (ap (λ (z : Entry). same_position z.position e.position) d_is ∙ position_itself e.position)
            ∙ or_right_true (set_of.contains (positions_at (log_of old.parts) x.0.places) d.position)

pub goes_on : (first old new : Served) (consumer : ℕ) (name : List ℕ) (place end index next : ℕ) → IsRising (log_of old.parts) → IsUpTo first old consumer name place end index → index < end
    → IsSettled new → AcknowledgesAt (log_of old.parts) index name (state_in old) (state_in new) → IsFirstMissing new place next → IsUpTo first new consumer name place end next
goes_on first old new consumer name place end index next rising so_far low settled is missing = record {
  settled = settled;
  whose = subst (λ (s : State). IsConsumerOf s consumer name) (sym is.2) (consumer_stays (state_in old) consumer name (is.0.position ∷ []) so_far.whose);
  there = there;
  state = all;
  missing = missing;
}
  where
    there : Some place ≡ position (is_placed name) new.parts.subscriptions.items
    there = place_stays old.parts new.parts name place (is.0.position ∷ []) is.2 so_far.there

    log_is : log_of new.parts ≡ log_of old.parts
    log_is = ap (λ (s : State). s.log) is.2

    log_first : log_of old.parts ≡ log_of first.parts
    log_first = ap (λ (s : State). s.log) so_far.state

    less : index < next
    less = later_missing old new name place index next rising so_far.there so_far.missing is missing

    f : List Position
    f = firsts (min index end) (log_of first.parts)

    g : List Position
    g = firsts (min next end) (log_of first.parts)

    one_of : (q : Position) → is_one_of (is.0.position ∷ []) q ≡ true → is_one_of (firsts (min next end) (log_of first.parts)) q ≡ true
    one_of q one =
        subst (λ (p : Position). is_one_of (firsts (min next end) (log_of first.parts)) p ≡ true) (one_of_itself is.0.position q one)
        (firsts_have (min next end) (log_of first.parts) index is.0 (ap (λ (l : List Entry). slice_get l index) (sym log_first) ∙ is.1) (omega (arith, less, low)))

    all : state_in new ≡ with_acknowledged (state_in first) name (firsts (min next end) (log_of first.parts))
    all =
        sym (over_again new name place next (min next end) (subst (λ (l : List Entry). IsRising l) (sym log_is) rising) settled there missing (omega arith))
        ∙ ap₂ (λ (s : State) (l : List Entry). with_acknowledged s name (firsts (min next end) l)) is.2 (log_is ∙ log_first)
        ∙ merging (is.0.position ∷ []) g one_of (state_in old) name
        ∙ ap (λ (s : State). with_acknowledged s name g) so_far.state
        ∙ merging f g (firsts_more (min index end) (min next end) (log_of first.parts) (omega (arith, less))) (state_in first) name

pub ends : (index end : ℕ) → end ≤ index → min index end ≡ end
ends index end high = omega arith
