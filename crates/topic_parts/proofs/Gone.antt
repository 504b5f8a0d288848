-- The first messages go: how many may, and what that is for the machine.
use Rattle.std.proofs.Common.{◌≡◌, ℕ, zero, suc, ◌+◌, ◌-◌, ◌*◌, ◌/◌, ◌^◌, ◌<◌, ◌≤◌, min, List, [], ◌∷◌, map, length, take, drop, Some, Bool, true, false, cond, All, slice_get, get_or, refl, ap, ap₂, ◌∙◌, sym, subst₂, arith, inl, inr}
use Rattle.std.specs.Prelude.{◌%◌, IsTrue}
use Rattle.std.specs.Vec.{with_items}
use Rattle.std.specs.List.{Any, prefix_len}
use Rattle.std.proofs.lemmas.Bool.{cases_lt, false≢true}
use Rattle.std.proofs.lemmas.List.{length-map, map-append, take_more, with_items_is}
use Rattle.std.proofs.lemmas.Option.{slice_get-get_or}
use Rattle.position_core.specs.declared.position.Position.{Position}
use Rattle.position_core.specs.declared.message.Entry.{Entry}
use Rattle.delivery_machine.specs.State.{State, DeadLetter, Subscription}
use Rattle.delivery_machine.specs.Trimming.{free_at_front, going, most_going, trimmed}
use Rattle.delivery_machine.specs.WellFormed.{has_message}
use Rattle.delivery_machine.proofs.Trimmed.{are_going}
use Rattle.topic_log.specs.Written.{Written, written_in}
use Rattle.topic_subscriptions.specs.Done.{done_by, done_by_all}
use Rattle.topic_subscriptions.specs.Placed.{AreAcknowledged, IsPlacedIn, IsRising, Placed, sub_in, trimmed_to}
use Rattle.topic_subscriptions.proofs.Done.{prefix_to}
use Rattle.topic_subscriptions.proofs.Front.{each_acknowledged, free_is, none_free, one_more_asked}
use Rattle.topic_subscriptions.proofs.Trimmed.{each_trimmed_in, each_trimmed_placed}
use Rattle.topic_parts.specs.Parts.{AreTied, log_of, state_of}
use Rattle.topic_parts.specs.Trimming.{MayGo}
use Rattle.topic_parts.specs.declared.parts.Parts.{Parts}

-- ---- how many

-- the message of a dead letter is in the log
pub dead_has : (log : List Entry) (ls : List DeadLetter) (q : Position) → All (λ (l : DeadLetter). IsTrue (has_message log l.position)) ls → Any (λ (l : DeadLetter). l.position ≡ q) ls → has_message log q ≡ true
dead_has log ls q all any = sym (ap (has_message log) (ap (λ (l : DeadLetter). l.position) any.3 ∙ any.4)) ∙ all any.0 any.1 any.2

-- one subscription more
pub asked_more : (f : Placed → Subscription) (ps : List Placed) (i : ℕ) (log : List Entry) (before one : ℕ) → i < length ps → before ≡ done_by_all (map f (take i ps)) log → ((p : Placed) → slice_get ps i ≡ Some p → one ≡ done_by (f p) log) → min before one ≡ done_by_all (map f (take (i + 1) ps)) log
asked_more f [] i log before one low was is = absurd (omega (arith, low))
asked_more f (x ∷ xs) i log before one low was is =
    let ps = x ∷ xs in
    ap₂ (λ m n. min m n) was (is (get_or (x ∷ xs) i x) (slice_get-get_or (x ∷ xs) i x low))
    ∙ sym (one_more_asked (map f (take i (x ∷ xs))) (f (get_or (x ∷ xs) i x)) log)
    ∙ ap (λ (ss : List Subscription). done_by_all ss log) (sym (ap (map f) (take_more (x ∷ xs) i x low) ∙ map-append f (take i (x ∷ xs)) (get_or (x ∷ xs) i x ∷ [])))

-- as far as a walk came: up to the end, or up to the first that fails
reaches : {X : Type 0} (p : X → Bool) (xs : List X) (n : ℕ) → n ≤ length xs → ((k : ℕ) (x : X) → k < n → slice_get xs k ≡ Some x → p x ≡ true) → n ≤ prefix_len p xs
reaches p xs zero within passes = omega arith
reaches p [] (suc n) within passes = absurd (omega (arith, within))
reaches p (x ∷ xs) (suc n) within passes = by (p x) (passes 0 x (omega arith) refl) (reaches p xs n (omega (arith, within)) (λ k y low at. passes (suc k) y (omega (arith, low)) at))
  where
    by : (b : Bool) → b ≡ true → n ≤ prefix_len p xs → suc n ≤ cond b (1 + prefix_len p xs) 0
    by true is rest = omega (arith, rest)
    by false is rest = absurd (false≢true is)

pub walked_all : {X : Type 0} (p : X → Bool) (xs : List X) (most r : ℕ) → r ≤ most → most ≤ r → most ≤ length xs → ((k : ℕ) (x : X) → k < r → slice_get xs k ≡ Some x → p x ≡ true) → r ≡ min most (prefix_len p xs)
walked_all p xs most r low high within passes = let far = reaches p xs r (omega (arith, low, within)) passes in omega (arith, low, high, far)

pub walked_to : {X : Type 0} (p : X → Bool) (xs : List X) (most r : ℕ) → r < most → most ≤ length xs → ((k : ℕ) (x : X) → k < r → slice_get xs k ≡ Some x → p x ≡ true) → ((x : X) → slice_get xs r ≡ Some x → p x ≡ false) → r ≡ min most (prefix_len p xs)
walked_to p xs most r low within passes stops = let is = prefix_to p xs r (omega (arith, low, within)) passes stops in omega (arith, low, is)

-- ---- which may go

whole_ones : (n : ℕ) → n / 64 * 64 % 64 ≡ 0
whole_ones n = omega arith

fewer : (most room free others : ℕ) → min (min most room) (min (free - 1) others) / 64 * 64 ≤ free
fewer most room free others = omega arith

module _ (t : Parts) (keep before most : ℕ) (rising : IsRising (log_of t)) (tied : AreTied t) (some : 0 < going (state_of t) keep before most) where
  few : going (state_of t) keep before most ≤ free_at_front (state_of t) before
  few = fewer most (2 ^ 62 - t.log.gone) (free_at_front (state_of t) before) (length (log_of t) - keep)

  is_there : 0 < length (state_of t).subscriptions
  is_there = elim (cases_lt 0 (length (state_of t).subscriptions)) [
    | inl there ↦ there
    | inr none ↦ absurd (omega (arith, some, few, none_free (state_of t) before (omega (arith, none))))
  ]

  pub going_may : MayGo t (going (state_of t) keep before most)
  going_may =
      let are = are_going (state_of t) keep before most some in
      record {
        whole = whole_ones (min (min most (2 ^ 62 - t.log.gone)) (most_going (state_of t) keep before));
        within = are.within;
        stored = omega (arith, are.visible);
        room = are.room;
        acknowledged = each_acknowledged (log_of t) t.members.members (going (state_of t) keep before most) rising t.subscriptions.items tied (omega (arith, few, free_is (state_of t) before is_there));
      }

-- ---- what that is for the machine

abbrev pub with_trimmed : Parts → Written → List Placed → Parts
with_trimmed old w ps = record old { log = w; subscriptions = with_items old.subscriptions ps }

module _ (old : Parts) (w : Written) (ps : List Placed) (count : ℕ) (rising : IsRising (log_of old)) (tied : AreTied old) (acknowledged : All (AreAcknowledged count) old.subscriptions.items)
    (log_is : w.log.log ≡ drop count (log_of old)) (are : ps ≡ map (trimmed_to count) old.subscriptions.items)
  where
    items_are : (with_items old.subscriptions ps).items ≡ map (trimmed_to count) old.subscriptions.items
    items_are = with_items_is old.subscriptions ps (ap length are ∙ length-map old.subscriptions.items (trimmed_to count) ∙ sym old.subscriptions.ok.0) ∙ are

    pub trimmed_state : ((s : State) → written_in w s ≡ record (trimmed count (written_in old.log s)) { subscriptions = s.subscriptions }) → state_of (with_trimmed old w ps) ≡ trimmed count (state_of old)
    trimmed_state machine =
        ap (λ (s : State). let t : State = record s { subscriptions = map (sub_in w.log.log) (with_items old.subscriptions ps).items } in t) (machine (state_of old))
        ∙ ap (λ (ss : List Subscription). let t : State = record (trimmed count (state_of old)) { subscriptions = ss } in t)
        (ap₂ (λ (log : List Entry) (qs : List Placed). map (sub_in log) qs) log_is items_are ∙ each_trimmed_in (log_of old) old.members.members count rising old.subscriptions.items tied acknowledged)

    pub trimmed_tied : AreTied (with_trimmed old w ps)
    trimmed_tied =
        subst₂ (λ (log : List Entry) (qs : List Placed). All (IsPlacedIn log old.members.members) qs) (sym log_is) (sym items_are)
        (each_trimmed_placed (log_of old) old.members.members count rising old.subscriptions.items tied acknowledged)
