-- A subscription that comes in without members, or goes.
use Rattle.std.proofs.Common.{◌≡◌, ℕ, zero, suc, ◌+◌, ◌<◌, ◌≤◌, List, [], ◌∷◌, map, length, take, Some, None, Bool, true, false, cond, All, get_or, slice_get, refl, ap, ap₂, ◌∙◌, sym, subst, subst₂, arith, inl, inr, ltb}
use Rattle.std.specs.Prelude.{Vec, not, is_some, ◌||◌, ◌&&◌}
use Rattle.std.specs.List.{filter, find, insert, remove, position, position_or_len}
use Rattle.std.specs.Ordering.{nat_cmp, is_lt}
use Rattle.std.specs.FinSet as set_of
use Rattle.std.specs.FinMap as map_of
use Rattle.std.proofs.lemmas.Bool.{cases_eq, cases_lt, ltb-true}
use Rattle.std.proofs.lemmas.List.{length-map}
use Rattle.std.proofs.lemmas.List.Edits.{length-insert, length-remove}
use Rattle.std.proofs.lemmas.Option.{get_or_from_slice_get}
use Rattle.position_core.specs.declared.position.Position.{Position}
use Rattle.position_core.specs.declared.message.Entry.{Entry}
use Rattle.position_core.specs.declared.kind.Kind.{Kind}
use Rattle.position_core.specs.declared.held.Held.{Held}
use Rattle.position_core.specs.Name.{name_order}
use Rattle.position_core.specs.Position.{position_cmp}
use Rattle.ack_ranges.specs.Ranges.{below}
use Rattle.ack_ranges.proofs.Covers.{contains_below}
use Rattle.delivery_machine.specs.State.{State, Member, Subscription}
use Rattle.delivery_machine.specs.Words.{is_at, is_named, members_of, removed}
use Rattle.delivery_machine.specs.Joining.{acknowledged_at_first}
use Rattle.delivery_machine.specs.Places.{positions_at}
use Rattle.delivery_machine.specs.declared.event.Initial.{Initial}
use Rattle.delivery_machine.specs.declared.event.Initial.TheVariants.{Earliest, Latest}
use Rattle.delivery_machine.proofs.Places.{found_nothing}
use Rattle.topic_served.specs.Agreeing.{agrees}
use Rattle.topic_served.specs.Stepping.{opened, unshared}
use Rattle.topic_served.specs.Told.{AreTold}
use Rattle.topic_served.specs.declared.dispatch.Dispatch.{Dispatch}
use Rattle.topic_served.proofs.Agreed.{told_inserted}
use Rattle.topic_served.proofs.Coming.{comes}
use Rattle.topic_served.proofs.Opening.{placed_there}
use Rattle.topic_served.proofs.Spots.{inserted_at, inserted_before, inserted_after, removed_before, removed_after, there}
use Rattle.topic_subscriptions.specs.Placed.{IsPlacedIn, IsRising, Placed, is_placed, line_at, sub_in}
use Rattle.topic_subscriptions.proofs.Links.{contains_at, first_acknowledged}
use Rattle.topic_parts.specs.declared.parts.Parts.{Parts}
use Rattle.topic_parts.specs.Parts.{AreTied, log_of, state_of}
use Rattle.topic_parts.proofs.Mapped.{position_mapped}
use Rattle.topic_served.specs.declared.served.Served.{Served}
use Rattle.topic_served.specs.Served.{IsBound}
use Rattle.member_events.specs.Entering.{IsBareAt, first_end, made_bare}

-- ---- lists

module _ {A B : Type 0} (f : A → B) where
  pub map_inserted : (xs : List A) (i : ℕ) (y : A) → map f (insert xs i y) ≡ insert (map f xs) i (f y)
  map_inserted xs zero y = refl
  map_inserted [] (suc i) y = refl
  map_inserted (x ∷ xs) (suc i) y = ap (λ ys. f x ∷ ys) (map_inserted xs i y)

  pub map_left : (xs : List A) (i : ℕ) → map f (remove xs i) ≡ remove (map f xs) i
  map_left [] zero = refl
  map_left [] (suc i) = refl
  map_left (x ∷ xs) zero = refl
  map_left (x ∷ xs) (suc i) = ap (λ ys. f x ∷ ys) (map_left xs i)

  pub first_alike : (p : A → Bool) (q : B → Bool) → ((x : A) → q (f x) ≡ p x) → (xs : List A) → position_or_len q (map f xs) ≡ position_or_len p xs
  first_alike p q alike [] = refl
  first_alike p q alike (x ∷ xs) = ap₂ (λ b n. cond (not b) (1 + n) 0) (alike x) (first_alike p q alike xs)

module _ {A : Type 0} (P : A → Type 0) (xs : List A) (i : ℕ) where
  at_some : (ys : List A) (k j : ℕ) (d : A) → All P xs → j < length xs → slice_get ys k ≡ slice_get xs j → P (get_or ys k d)
  at_some ys k j d all low same =
      let at = there xs j low in
      subst P (sym (get_or_from_slice_get ys k at.0 d (same ∙ at.1))) (subst P (get_or_from_slice_get xs j at.0 d at.1) (all j d low))

  pub all_left : All P xs → i < length xs → All P (remove xs i)
  all_left all low k d within = elim (cases_lt k i) [
    | inl before ↦ at_some (remove xs i) k k d all (omega (arith, before, low)) (removed_before xs i k before low)
    | inr past ↦ at_some (remove xs i) k (suc k) d all (omega (arith, past, within, length-remove xs i low)) (removed_after xs i k past low)
  ]

  pub all_with : (y : A) → All P xs → i ≤ length xs → P y → All P (insert xs i y)
  all_with y all low new k d within = elim (cases_lt k i) [
    | inl before ↦ at_some (insert xs i y) k k d all (omega (arith, before, low)) (inserted_before xs i k y before low)
    | inr past ↦ elim (cases_eq k i) [
      | inl same ↦ subst P (sym (get_or_from_slice_get (insert xs i y) k y d (ap (slice_get (insert xs i y)) same ∙ inserted_at xs i y low))) new
      | inr other ↦ later k past other within
    ]
  ]
    where
      later : (k : ℕ) → i ≤ k → (k ≡ i → ⊥) → k < length (insert xs i y) → P (get_or (insert xs i y) k d)
      later zero past other within = absurd (other (omega (arith, past)))
      later (suc k) past other within =
          let after : i ≤ k = behind past other in
          at_some (insert xs i y) (suc k) k d all (omega (arith, within, length-insert xs i y low)) (inserted_after xs i k y after low)
        where
          behind : i ≤ suc k → (suc k ≡ i → ⊥) → i ≤ k
          behind past other = elim (cases_eq (suc k) i) [
            | inl same ↦ absurd (other same)
            | inr differs ↦ omega (arith, past, differs)
          ]

-- what came in goes again
pub taken_out : {A : Type 0} (q : A → Bool) (xs : List A) (i : ℕ) (y : A) → find q xs ≡ None → q y ≡ true → i ≤ length xs → removed q (insert xs i y) ≡ xs
taken_out q xs zero y none is low = ap (λ b. cond b xs (y ∷ removed q xs)) is
taken_out q [] (suc i) y none is low = absurd (omega arith)
taken_out {A} q (x ∷ xs) (suc i) y none is low = by (q x) refl none (λ rest. taken_out q xs i y rest is (omega arith))
  where
    by : (b : Bool) → q x ≡ b → cond b (Some x) (find q xs) ≡ None → (find q xs ≡ None → removed q (insert xs i y) ≡ xs) → removed q (x ∷ insert xs i y) ≡ x ∷ xs
    by true here some later = absurd (cc)
    by false other rest later = ap (λ b. cond b (insert xs i y) (x ∷ removed q (insert xs i y))) other ∙ ap (λ ys. x ∷ ys) (later rest)

-- ---- the subscription that comes in

take_all : (log : List Entry) → take (length log) log ≡ log
take_all [] = refl
take_all (e ∷ log) = ap (λ xs. e ∷ xs) (take_all log)

first_is : (log : List Entry) (initial : Initial) → IsRising log → positions_at log (below (first_end initial log)) ≡ acknowledged_at_first initial log
first_is log Earliest rising = first_acknowledged log 0 rising
first_is log Latest rising = first_acknowledged log (length log) rising ∙ ap (λ (xs : List Entry). set_of.from_list {R = position_cmp} (map (λ (e : Entry). e.position) xs)) (take_all log)

pub bare_in : (log : List Entry) (name : List ℕ) (kind : Kind) (initial : Initial) → IsRising log → sub_in log (made_bare name kind (first_end initial log)) ≡ unshared name kind initial log
bare_in log name kind initial rising = ap (λ (a : set_of.FinSet position_cmp). record (unshared name kind initial log) { acknowledged = a }) (first_is log initial rising)

first_within : (log : List Entry) (initial : Initial) → first_end initial log ≤ length log
first_within log Earliest = omega arith
first_within log Latest = omega arith

pub bare_placed : (log : List Entry) (ms : List Member) (name : List ℕ) (kind : Kind) (initial : Initial) → IsRising log → [] ≡ line_at name ms → IsPlacedIn log ms (made_bare name kind (first_end initial log))
bare_placed log ms name kind initial rising nobody = record {
  within = λ k inside. inside_below k (sym (contains_below (first_end initial log) k) ∙ inside);
  buried_within = λ k inside. absurd (nothing k inside);
  live = λ k e at.
      ap (λ b. not b && true) (contains_at log (below (first_end initial log)) k e rising at) ∙ as_live (set_of.contains (below (first_end initial log)) k) (set_of.contains set_of.empty k) (set_of.contains-empty nat_cmp k);
  line = nobody;
  pending = λ q key. absurd (no_key q key);
  counted = λ q key. absurd (no_count q key);
}
  where
    inside_below : (k : ℕ) → ltb k (first_end initial log) ≡ true → k < length log
    inside_below k inside = omega (arith, first_within log initial, ltb-true k (first_end initial log) inside)

    nothing : (k : ℕ) → set_of.contains {R = nat_cmp} set_of.empty k ≡ true → ⊥
    nothing k inside = cc (sym (set_of.contains-empty nat_cmp k) ∙ inside)

    as_live : (a b : Bool) → b ≡ false → (not a && true) ≡ not (a || b)
    as_live true b none = refl
    as_live false b none = ap not (sym none)

    no_key : (q : Position) → is_some (map_of.get {X = Held} {R = position_cmp} map_of.empty q) ≡ true → ⊥
    no_key q key = cc (sym (ap is_some (map_of.get-empty position_cmp q)) ∙ key)

    no_count : (q : Position) → is_some (map_of.get {X = ℕ} {R = position_cmp} map_of.empty q) ≡ true → ⊥
    no_count q key = cc (sym (ap is_some (map_of.get-empty position_cmp q)) ∙ key)

-- ---- the topic with it

pub back_out : {A : Type 0} (xs : List A) (i : ℕ) (y : A) → i ≤ length xs → remove (insert xs i y) i ≡ xs
back_out xs zero y low = refl
back_out [] (suc i) y low = absurd (omega arith)
back_out (x ∷ xs) (suc i) y low = ap (λ ys. x ∷ ys) (back_out xs i y (omega arith))

module _ (t : Parts) (place : ℕ) (name : List ℕ) (kind : Kind) (initial : Initial) (y : Placed) (rising : IsRising (log_of t)) (is : y ≡ made_bare name kind (first_end initial (log_of t)))
    (goes : place ≡ position_or_len (λ (other : Placed). is_lt (name_order name other.name)) t.subscriptions.items) where
  abbrev s : State
  s = state_of t

  pub state_opened : ◌≡◌ {A = State} (record s { subscriptions = map (sub_in (log_of t)) (insert t.subscriptions.items place y) }) (opened s name kind initial)
  state_opened =
      ap (λ (subs : List Subscription). record s { subscriptions = subs })
      (map_inserted (sub_in (log_of t)) t.subscriptions.items place y
      ∙ ap₂ (λ (i : ℕ) (sub : Subscription). insert s.subscriptions i sub)
      (goes ∙ sym (first_alike (sub_in (log_of t)) (λ (other : Placed). is_lt (name_order name other.name)) (λ (other : Subscription). is_lt (name_order name other.name)) (λ _. refl) t.subscriptions.items))
      (ap (sub_in (log_of t)) is ∙ bare_in (log_of t) name kind initial rising))

  pub place_opened : None ≡ position (is_placed name) t.subscriptions.items → Some place ≡ position (is_placed name) (insert t.subscriptions.items place y)
  place_opened absent =
      let new : Subscription = unshared name kind initial (log_of t) in
      let none = found_nothing (is_named name) s.subscriptions (absent ∙ sym (position_mapped (sub_in (log_of t)) (is_placed name) (is_named name) (λ _. refl) t.subscriptions.items)) in
      ap (λ (i : ℕ). Some i) (goes ∙ sym (first_alike (sub_in (log_of t)) (λ (other : Placed). is_lt (name_order name other.name)) (λ (other : Subscription). is_lt (name_order name other.name)) (λ _. refl) t.subscriptions.items))
      ∙ sym (placed_there s new none)
      ∙ ap (λ (u : State). position (is_named name) u.subscriptions) (sym state_opened)
      ∙ position_mapped (sub_in (log_of t)) (is_placed name) (is_named name) (λ _. refl) (insert t.subscriptions.items place y)

  pub tied_opened : place ≤ length t.subscriptions.items → AreTied t → members_of s name ≡ [] → All (IsPlacedIn (log_of t) t.members.members) (insert t.subscriptions.items place y)
  tied_opened low tied nobody =
      all_with (IsPlacedIn (log_of t) t.members.members) t.subscriptions.items place y tied low
      (subst (λ (p : Placed). IsPlacedIn (log_of t) t.members.members p) (sym is)
      (bare_placed (log_of t) t.members.members name kind initial rising (sym (ap (map (λ (m : Member). m.number)) nobody))))

  pub bare_there : (new : Parts) → place ≤ length t.subscriptions.items → new.subscriptions.items ≡ insert t.subscriptions.items place y → new.members.members ≡ t.members.members → members_of s name ≡ [] → IsBareAt new place kind
  bare_there new low items members nobody = record {
    sub = y;
    there = sym (ap (λ (subs : List Placed). slice_get subs place) items ∙ inserted_at t.subscriptions.items place y low);
    of_kind = sym (ap (λ (p : Placed). p.kind) is);
    nobody = ap₂ (λ (n : List ℕ) (ms : List Member). filter (is_at n) ms) (ap (λ (p : Placed). p.name) is) members ∙ nobody;
    unshared = ap (λ (p : Placed). p.shares) is;
  }

  -- a dispatcher that agrees with it is put in
  pub told_opened : (ds : List Dispatch) (d : Dispatch) → place ≤ length t.subscriptions.items → AreTold ds s → agrees d (record s { subscriptions = map (sub_in (log_of t)) (insert t.subscriptions.items place y) }) (sub_in (log_of t) y)
      → AreTold (insert ds place d) (record s { subscriptions = map (sub_in (log_of t)) (insert t.subscriptions.items place y) })
  told_opened ds d low told agreeing =
      let u : State = record s { subscriptions = map (sub_in (log_of t)) (insert t.subscriptions.items place y) } in
      told_inserted ds s u told place d (sub_in (log_of t) y)
      (comes s u refl (omega arith) refl place (sub_in (log_of t) y) (omega (arith, low, length-map t.subscriptions.items (sub_in (log_of t)))) (map_inserted (sub_in (log_of t)) t.subscriptions.items place y)) agreeing

-- it goes again, where something fails
pub bound_again : (c : Served) (subs : Vec Placed _) (ds : Vec Dispatch _) → subs.items ≡ c.parts.subscriptions.items → ds.items ≡ c.dispatchers.items → IsBound c → IsBound (record { parts = record c.parts { subscriptions = subs }; dispatchers = ds })
bound_again c subs ds same_subs same_ds bound = record {
  numbers = bound.numbers;
  tied = subst (λ (xs : List Placed). All (IsPlacedIn (log_of c.parts) c.parts.members.members) xs) (sym same_subs) bound.tied;
  told =
      let s : State = state_of c.parts in
      subst₂ (λ (xs : List Placed) (d : List Dispatch). AreTold d (record s { subscriptions = map (sub_in (log_of c.parts)) xs })) (sym same_subs) (sym same_ds) bound.told;
}
