-- The first messages go: what is kept of a subscription speaks of the others.
use Rattle.std.proofs.Common.{◌≡◌, ℕ, ◌+◌, ◌-◌, ◌<◌, ◌≤◌, List, [], ◌∷◌, map, length, drop, Some, None, Option, Bool, true, false, cond, refl, ap, ap₂, ◌∙◌, sym, arith, inl, inr, slice_get, All, length-drop, ltb}
use Rattle.std.specs.Prelude.{◌||◌, ◌&&◌, not, is_some}
use Rattle.std.specs.Ordering.{nat_cmp}
use Rattle.std.specs.FinSet as set
use Rattle.std.specs.FinMap as map_of
use Rattle.std.proofs.lemmas.Bool.{cases_lt, lt-ltb, le-ltb, false≢true, true≢false}
use Rattle.std.proofs.lemmas.Cmp.{tied_itself}
use Rattle.std.proofs.lemmas.List.Elements.{All-cons, All-head, All-nil, All-tail}
use Rattle.position_core.specs.declared.position.Position.{Position}
use Rattle.position_core.specs.declared.message.Entry.{Entry}
use Rattle.position_core.specs.Position.{position_cmp, same_position, positions_total, exact_positions}
use Rattle.log_pieces.specs.Pieces.{index_of}
use Rattle.log_pieces.proofs.Joined.{get_dropped}
use Rattle.log_pieces.proofs.Searching.{found}
use Rattle.ack_ranges.specs.Lowered.{lowered}
use Rattle.ack_ranges.proofs.Lowering.{contains_lowered}
use Rattle.delivery_machine.specs.State.{Member, Subscription}
use Rattle.delivery_machine.specs.Words.{is_dead}
use Rattle.delivery_machine.specs.Acknowledging.{is_one_of}
use Rattle.delivery_machine.specs.Places.{AreBelow, positions_at}
use Rattle.delivery_machine.specs.Trimming.{without_messages}
use Rattle.delivery_machine.specs.WellFormed.{AreMessagesOf}
use Rattle.delivery_machine.proofs.Deciding.{and_first}
use Rattle.delivery_machine.proofs.Messages.{message_among, position_itself}
use Rattle.delivery_machine.proofs.Rising.{sorted_dropped}
use Rattle.delivery_machine.proofs.Trimmed.{acknowledged_stays, acknowledged_without, contains_dropped, positions_gone}
use Rattle.topic_subscriptions.specs.Placed.{AreAcknowledged, IsLiveIn, IsPlacedIn, IsRising, Placed, is_live_at, sub_in, trimmed_to}
use Rattle.topic_subscriptions.proofs.Links.{at_place, contains_at, eq_of_less, is_first, positions_of_log, same_places, same_positions}
use Rattle.topic_subscriptions.proofs.Changes.{stands}

back_at : (n i : ℕ) → n ≤ i → n + (i - n) ≡ i
back_at n i past = omega (arith, past)

and_false : (b : Bool) → (b && false) ≡ false
and_false true = refl
and_false false = refl

-- none of the keys is one of these
pub all_kept : {X : Type 0} (m : map_of.FinMap position_cmp X) (ps : List Position) → ((q : Position) → map_of.contains_key m q ≡ true → is_one_of ps q ≡ false) → map_of.retain_keys m (λ q. not (is_one_of ps q)) ≡ m
all_kept {X} m ps none =
    map_of.same_map positions_total exact_positions (map_of.retain_keys m keeps) m
    (λ q. map_of.get-retain_keys m keeps q (λ x t. ap keeps (sym (exact_positions q x t))) ∙ by (is_one_of ps q) (map_of.get m q) (none q))
  where
    keeps : Position → Bool
    keeps q = not (is_one_of ps q)

    by : (b : Bool) (o : Option X) → (is_some o ≡ true → b ≡ false) → cond (not b) o None ≡ o
    by b None none = same b
      where
        same : (b : Bool) → ◌≡◌ {A = Option X} (cond (not b) None None) None
        same true = refl
        same false = refl
    by b (Some x) none = ap (λ c. cond (not c) (Some x) None) (none refl)

-- ---- what stays in the log

module _ (log : List Entry) (n : ℕ) (rising : IsRising log) where
  pub rising_still : IsRising (drop n log)
  rising_still = sorted_dropped n log rising

  -- a message goes exactly where it is one of the first
  pub goes_at : (i : ℕ) (e : Entry) → slice_get log i ≡ Some e → is_one_of (positions_gone n log) e.position ≡ ltb i n
  goes_at i e at = is_first e.position n log i e at refl (λ j d there. same_places log i j e d rising at there)

  pub stays_at : (i : ℕ) (e : Entry) → slice_get log i ≡ Some e → n ≤ i → slice_get (drop n log) (i - n) ≡ Some e
  stays_at i e at past = get_dropped n (i - n) log ∙ ap (slice_get log) (back_at n i past) ∙ at

  pub index_lowered : (q : Position) (i : ℕ) → index_of q log ≡ Some i → n ≤ i → index_of q (drop n log) ≡ Some (i - n)
  index_lowered q i there past =
      let at = stands log q i there in
      sym (found (drop n log) q (i - n) at.0 rising_still (stays_at i at.0 at.1 past) (ap (position_cmp at.0.position) (sym at.2) ∙ tied_itself positions_total at.0.position))

  -- ---- what is acknowledged

  left_out : (places : set.FinSet nat_cmp) (i : ℕ) (e : Entry) → slice_get log i ≡ Some e → i < n → set.contains (positions_at (drop n log) places) e.position ≡ false
  left_out places i e at low = by (set.contains (positions_at (drop n log) places) e.position) refl
    where
      by : (b : Bool) → set.contains (positions_at (drop n log) places) e.position ≡ b → set.contains (positions_at (drop n log) places) e.position ≡ false
      by false out = out
      by true inside =
          let there = at_place (drop n log) e.position (positions_of_log (drop n log) places e.position inside) in
          let at_there : slice_get log (n + there.0) ≡ Some there.1 = sym (get_dropped n there.0 log) ∙ there.2 in
          absurd (true≢false (sym (position_itself e.position) ∙ ap (same_position e.position) (sym there.3) ∙ same_places log i (n + there.0) e there.1 rising at at_there ∙ eq_of_less i (n + there.0) (omega (arith, low))))

  kept_there : (places : set.FinSet nat_cmp) (i : ℕ) (e : Entry) → slice_get log i ≡ Some e → n ≤ i → set.contains (positions_at (drop n log) (lowered n places)) e.position ≡ set.contains places i
  kept_there places i e at past =
      contains_at (drop n log) (lowered n places) (i - n) e rising_still (stays_at i e at past)
      ∙ contains_lowered n places (i - n) ∙ ap (set.contains places) (back_at n i past)

  pub acknowledged_lowered : (p : Placed) → positions_at (drop n log) (lowered n p.places) ≡ (without_messages (positions_gone n log) (sub_in log p)).acknowledged
  acknowledged_lowered p = same_positions log _ _ of_rest of_both alike
    where
      without : (q : Position) → set.contains (without_messages (positions_gone n log) (sub_in log p)).acknowledged q ≡ (set.contains (positions_at log p.places) q && not (is_one_of (positions_gone n log) q))
      without q = acknowledged_without (positions_gone n log) (sub_in log p) q

      of_rest : AreMessagesOf log (positions_at (drop n log) (lowered n p.places))
      of_rest q inside = message_among (drop n log) log q (λ e at. contains_dropped n log e at) (positions_of_log (drop n log) (lowered n p.places) q inside)

      of_both : AreMessagesOf log (without_messages (positions_gone n log) (sub_in log p)).acknowledged
      of_both q inside = positions_of_log log p.places q (and_first (set.contains (positions_at log p.places) q) (not (is_one_of (positions_gone n log) q)) (sym (without q) ∙ inside))

      alike : (i : ℕ) (e : Entry) → slice_get log i ≡ Some e → set.contains (positions_at (drop n log) (lowered n p.places)) e.position ≡ set.contains (without_messages (positions_gone n log) (sub_in log p)).acknowledged e.position
      alike i e at = elim (cases_lt i n) [
        | inl low ↦
            left_out (lowered n p.places) i e at low
            ∙ sym (without e.position ∙ ap (λ b. set.contains (positions_at log p.places) e.position && not b) (goes_at i e at ∙ lt-ltb i n low) ∙ and_false (set.contains (positions_at log p.places) e.position))
        | inr past ↦
            kept_there p.places i e at past
            ∙ sym (acknowledged_stays (positions_gone n log) (sub_in log p) e.position (goes_at i e at ∙ le-ltb i n past) ∙ contains_at log p.places i e rising at)
      ]

-- ---- the subscription

module _ (log : List Entry) (ms : List Member) (p : Placed) (n : ℕ) (rising : IsRising log) (placed : IsPlacedIn log ms p) (done : AreAcknowledged n p) where
  -- what is live is none of those that go
  live_past : (q : Position) (l : IsLiveIn log p q) → n ≤ l.place
  live_past q l = elim (cases_lt l.place n) [
    | inl low ↦ absurd (false≢true (sym (ap (λ b. not (b || set.contains p.buried l.place)) (done l.place low)) ∙ l.live))
    | inr past ↦ past
  ]

  live_stays : (q : Position) → IsLiveIn log p q → is_one_of (positions_gone n log) q ≡ false
  live_stays q l =
      let at = stands log q l.place l.there in
      ap (is_one_of (positions_gone n log)) (sym at.2) ∙ goes_at log n rising l.place at.0 at.1 ∙ le-ltb l.place n (live_past q l)

  pub trimmed_in : sub_in (drop n log) (trimmed_to n p) ≡ without_messages (positions_gone n log) (sub_in log p)
  trimmed_in =
      ap₂ (λ (a : set.FinSet position_cmp) (c : map_of.FinMap position_cmp ℕ). let s : Subscription = record (sub_in log p) { acknowledged = a; counts = c } in s)
      (acknowledged_lowered log n rising p)
      (sym (all_kept p.pending.counts (positions_gone n log) (λ q key. live_stays q (placed.counted q key))))

  live_lower : (i : ℕ) → is_live_at (trimmed_to n p) i ≡ is_live_at p (n + i)
  live_lower i = ap₂ (λ a b. not (a || b)) (contains_lowered n p.places i) (contains_lowered n p.buried i)

  lives_still : (q : Position) → IsLiveIn log p q → IsLiveIn (drop n log) (trimmed_to n p) q
  lives_still q l = record {
    place = l.place - n;
    there = index_lowered log n rising q l.place l.there (live_past q l);
    live = live_lower (l.place - n) ∙ ap (is_live_at p) (back_at n l.place (live_past q l)) ∙ l.live;
  }

  lower_within : (s : set.FinSet nat_cmp) → AreBelow (length log) s → AreBelow (length (drop n log)) (lowered n s)
  lower_within s within i inside = let low = within (n + i) (sym (contains_lowered n s i) ∙ inside) in omega (arith, low, length-drop n log)

  pub trimmed_placed : IsPlacedIn (drop n log) ms (trimmed_to n p)
  trimmed_placed = record {
    within = lower_within p.places placed.within;
    buried_within = lower_within p.buried placed.buried_within;
    live = λ i e there.
        let at : slice_get log (n + i) ≡ Some e = sym (get_dropped n i log) ∙ there in
        ap (λ b. not b && not (is_dead (sub_in log p) e.position))
        (contains_at (drop n log) (lowered n p.places) i e (rising_still log n rising) there ∙ contains_lowered n p.places i ∙ sym (contains_at log p.places (n + i) e rising at))
        ∙ placed.live (n + i) e at ∙ sym (live_lower i);
    line = placed.line;
    pending = λ q key. lives_still q (placed.pending q key);
    counted = λ q key. lives_still q (placed.counted q key);
  }

-- ---- all subscriptions

module _ (log : List Entry) (ms : List Member) (n : ℕ) (rising : IsRising log) where
  pub each_trimmed_in : (ps : List Placed) → All (IsPlacedIn log ms) ps → All (AreAcknowledged n) ps → map (sub_in (drop n log)) (map (trimmed_to n) ps) ≡ map (without_messages (positions_gone n log)) (map (sub_in log) ps)
  each_trimmed_in [] placed done = refl
  each_trimmed_in (p ∷ ps) placed done =
      ap₂ (λ (s : Subscription) (ss : List Subscription). s ∷ ss)
      (trimmed_in log ms p n rising (All-head (IsPlacedIn log ms) p ps placed) (All-head (AreAcknowledged n) p ps done))
      (each_trimmed_in ps (All-tail (IsPlacedIn log ms) p ps placed) (All-tail (AreAcknowledged n) p ps done))

  pub each_trimmed_placed : (ps : List Placed) → All (IsPlacedIn log ms) ps → All (AreAcknowledged n) ps → All (IsPlacedIn (drop n log) ms) (map (trimmed_to n) ps)
  each_trimmed_placed [] placed done = All-nil (IsPlacedIn (drop n log) ms)
  each_trimmed_placed (p ∷ ps) placed done =
      All-cons (IsPlacedIn (drop n log) ms) (trimmed_to n p) (map (trimmed_to n) ps)
      (trimmed_placed log ms p n rising (All-head (IsPlacedIn log ms) p ps placed) (All-head (AreAcknowledged n) p ps done))
      (each_trimmed_placed ps (All-tail (IsPlacedIn log ms) p ps placed) (All-tail (AreAcknowledged n) p ps done))
