-- The first messages go: what that is for each subscription's dispatcher.
use Rattle.std.proofs.Common.{◌≡◌, ℕ, ◌+◌, ◌<◌, ◌≤◌, List, [], ◌∷◌, length, Some, None, Option, Bool, true, false, All, slice_get, get_or, refl, ap, ◌∙◌, sym, subst, arith, set, true≢false}
use Rattle.std.specs.Prelude.{◌||◌, ◌&&◌, is_some, not}
use Rattle.std.specs.Option.{option_map, option_map_or, option_and_then}
use Rattle.std.specs.FinSet as set_of
use Rattle.std.specs.FinMap as map_of
use Rattle.std.proofs.lemmas.Bool.{le-ltb}
use Rattle.std.proofs.lemmas.List.{length-map}
use Rattle.std.proofs.lemmas.Option.{get_or_from_slice_get, same_Some, slice_get-map, slice_get-get_or, slice_get_within}
use Rattle.position_core.specs.declared.message.Entry.{Entry}
use Rattle.position_core.specs.declared.held.Held.{Held}
use Rattle.log_pieces.proofs.Joined.{get_dropped}
use Rattle.delivery_machine.specs.State.{State, Member, Subscription}
use Rattle.delivery_machine.specs.Words.{is_dead, is_live, is_waiting, visible}
use Rattle.delivery_machine.specs.Places.{positions_at}
use Rattle.delivery_machine.specs.Trimming.{trimmed, without_messages}
use Rattle.delivery_machine.proofs.Trimmed.{live_stays, positions_gone}
use Rattle.dispatch_core.specs.Log.{holder_at, holder_of, line_of, waits_at}
use Rattle.dispatch_core.specs.Changes.{AgreesAfter, Trimmed}
use Rattle.topic_served.specs.declared.dispatch.Dispatch.{Dispatch}
use Rattle.topic_served.specs.Agreeing.{agrees}
use Rattle.topic_served.proofs.TellingAll.{AreToldTo, told_to_next}
use Rattle.topic_subscriptions.specs.Placed.{AreAcknowledged, IsPlacedIn, IsRising, Placed, sub_in}
use Rattle.topic_subscriptions.proofs.Changes.{stands}
use Rattle.topic_subscriptions.proofs.Links.{contains_at}
use Rattle.topic_subscriptions.proofs.Trimmed.{goes_at}
use Rattle.topic_parts.specs.Parts.{AreTied, log_of, state_of}
use Rattle.topic_parts.specs.declared.parts.Parts.{Parts}
use Rattle.topic_served.specs.Trimming.{AreTrimmed}
use Rattle.topic_served.proofs.Telling.{at_place}

-- no subscription has anything to do with the first messages, so many
abbrev pub AreIdle : ℕ → State → Type 0
AreIdle n s = (k i : ℕ) (sub : Subscription) (e : Entry) → i < n → slice_get s.subscriptions k ≡ Some sub → slice_get s.log i ≡ Some e → (is_live sub e ≡ false) × (map_of.contains_key sub.pending e.position ≡ false)

one_at : {X : Type 0} (xs : List X) (i : ℕ) → i < length xs → (x : X) × (slice_get xs i ≡ Some x)
one_at [] i low = absurd (omega (arith, low))
one_at (x ∷ xs) i low = (get_or (x ∷ xs) i x, slice_get-get_or (x ∷ xs) i x low)

-- what is acknowledged is neither live nor pending
idle_acknowledged : (log : List Entry) (ms : List Member) (p : Placed) (i : ℕ) (e : Entry) → IsRising log → IsPlacedIn log ms p → set_of.contains p.places i ≡ true → slice_get log i ≡ Some e → (is_live (sub_in log p) e ≡ false) × (map_of.contains_key p.pending.pending e.position ≡ false)
idle_acknowledged log ms p i e rising placed inside at = (ap (λ b. not b && not (is_dead (sub_in log p) e.position)) here, by (map_of.contains_key p.pending.pending e.position) refl)
  where
    here : set_of.contains (positions_at log p.places) e.position ≡ true
    here = contains_at log p.places i e rising at ∙ inside

    by : (b : Bool) → map_of.contains_key p.pending.pending e.position ≡ b → b ≡ false
    by false out = refl
    by true key =
        let l = placed.pending e.position key in
        let d = stands log e.position l.place l.there in
        let gone = sym (contains_at log p.places l.place d.0 rising d.1) ∙ ap (set_of.contains (positions_at log p.places)) d.2 ∙ here in
        absurd (true≢false (sym l.live ∙ ap (λ b. not (b || set_of.contains p.buried l.place)) gone))

pub are_idle : (t : Parts) (n : ℕ) → IsRising (log_of t) → AreTied t → All (AreAcknowledged n) t.subscriptions.items → AreIdle n (state_of t)
are_idle t n rising tied all k i sub e low at there =
    let within = slice_get_within (state_of t).subscriptions k sub at in
    let few : k < length t.subscriptions.items = omega (arith, within, length-map t.subscriptions.items (sub_in (log_of t))) in
    let p = one_at t.subscriptions.items k few in
    let is : sub_in (log_of t) p.0 ≡ sub = same_Some (sub_in (log_of t) p.0) sub (sym (at_place t k p.0 (sym p.1)) ∙ at) in
    let here : get_or t.subscriptions.items k p.0 ≡ p.0 = get_or_from_slice_get t.subscriptions.items k p.0 p.0 p.1 in
    let placed = subst (λ (x : Placed). IsPlacedIn (log_of t) t.members.members x) here (tied k p.0 few) in
    let acknowledged = subst (λ (x : Placed). AreAcknowledged n x) here (all k p.0 few) in
    subst (λ (x : Subscription). (is_live x e ≡ false) × (map_of.contains_key x.pending e.position ≡ false)) is
    (idle_acknowledged (log_of t) t.members.members p.0 i e rising placed (acknowledged i low) there)

-- ---- what that is for a dispatcher

module _ (s : State) (n : ℕ) (rising : IsRising s.log) where
  waiting_still : (sub : Subscription) (i : ℕ) (o : Option Entry) → slice_get s.log (n + i) ≡ o → option_map_or (is_waiting (without_messages (positions_gone n s.log) sub)) o false ≡ option_map_or (is_waiting sub) o false
  waiting_still sub i None at = refl
  waiting_still sub i (Some e) at =
      ap (λ a. a && not (map_of.contains_key sub.pending e.position))
      (live_stays (positions_gone n s.log) sub e (goes_at s.log n rising (n + i) e at ∙ le-ltb (n + i) n (omega arith)))

  waits_still : (sub : Subscription) (i : ℕ) → waits_at (trimmed n s) (without_messages (positions_gone n s.log) sub) i ≡ waits_at s sub (n + i)
  unfolding waits_at
  waits_still sub i =
      ap (λ (o : Option Entry). option_map_or (is_waiting (without_messages (positions_gone n s.log) sub)) o false) (get_dropped n i s.log)
      ∙ waiting_still sub i (slice_get s.log (n + i)) refl

  holder_still : (sub : Subscription) (i : ℕ) → holder_at (trimmed n s) (without_messages (positions_gone n s.log) sub) i ≡ holder_at s sub (n + i)
  unfolding holder_at
  holder_still sub i = ap (λ (o : Option Entry). option_and_then (holder_of sub) o) (get_dropped n i s.log)

  idle_at : (sub : Subscription) (i : ℕ) → ((e : Entry) → slice_get s.log i ≡ Some e → (is_live sub e ≡ false) × (map_of.contains_key sub.pending e.position ≡ false)) → (waits_at s sub i ≡ false) × (holder_at s sub i ≡ None)
  unfolding waits_at holder_at
  idle_at sub i done = by (slice_get s.log i) done
    where
      nothing : (o : Option Held) → is_some o ≡ false → option_map (λ (h : Held). h.consumer) o ≡ None
      nothing None free = refl
      nothing (Some x) free = absurd (true≢false free)

      by : (o : Option Entry) → ((e : Entry) → o ≡ Some e → (is_live sub e ≡ false) × (map_of.contains_key sub.pending e.position ≡ false)) → (option_map_or (is_waiting sub) o false ≡ false) × (option_and_then (holder_of sub) o ≡ None)
      by None done = (refl, refl)
      by (Some e) done = (
        ap (λ a. a && not (map_of.contains_key sub.pending e.position)) (done e refl).0,
        nothing (map_of.get sub.pending e.position) (done e refl).1,
      )

  trimmed_for : (sub : Subscription) → n ≤ length (visible s) → ((i : ℕ) (e : Entry) → i < n → slice_get s.log i ≡ Some e → (is_live sub e ≡ false) × (map_of.contains_key sub.pending e.position ≡ false)) → Trimmed n s sub (trimmed n s) (without_messages (positions_gone n s.log) sub)
  unfolding line_of
  trimmed_for sub seen done = record {
    kind = refl;
    log = refl;
    durable = refl;
    seen = seen;
    line = refl;
    shares = refl;
    waits = waits_still sub;
    holder = holder_still sub;
    idle = λ i low. idle_at sub i (λ e at. done i e low at);
  }

  pub are_trimmed : n ≤ length (visible s) → AreIdle n s → AreTrimmed n s (trimmed n s)
  are_trimmed seen done = record {
    many = length-map s.subscriptions (without_messages (positions_gone n s.log));
    each = λ k sub new was is.
        subst (λ (x : Subscription). Trimmed n s sub (trimmed n s) x)
        (same_Some (without_messages (positions_gone n s.log) sub) new (sym (slice_get-map (without_messages (positions_gone n s.log)) s.subscriptions k ∙ ap (option_map (without_messages (positions_gone n s.log))) was) ∙ is))
        (trimmed_for sub seen (λ i e low at. done k i sub e low was at));
  }

-- ---- the dispatchers are told, one after another

module _ (count : ℕ) (parts : Parts) (s : State) (are : AreTrimmed count s (state_of parts)) where
  pub told_one_more : (ds : List Dispatch) (seen : Parts) (i : ℕ) (v : Placed) (d told : Dispatch) → AreToldTo i ds s (state_of parts) → i < length ds → seen ≡ parts → Some v ≡ slice_get parts.subscriptions.items i → d ≡ get_or ds i d
      → AgreesAfter (Trimmed count) (agrees d) (agrees told) (state_of seen) (sub_in (log_of seen) v) → AreToldTo (i + 1) (set ds i told) s (state_of parts)
  told_one_more ds seen i v d told to low same at here agreeing =
      let was = one_at s.subscriptions i (omega (arith, low, to.many, to.same)) in
      let is = at_place parts i v at in
      told_to_next s (state_of parts) i (Trimmed count) ds (set ds i told) was.0 (sub_in (log_of parts) v) was.1 is (are.each i was.0 (sub_in (log_of parts) v) was.1 is) (record {
        old = d;
        told = told;
        was = slice_get-get_or ds i d low ∙ ap (λ (x : Dispatch). Some x) (sym here);
        is = refl;
        agreeing = subst (λ (p : Parts). AgreesAfter (Trimmed count) (agrees d) (agrees told) (state_of p) (sub_in (log_of p) v)) same agreeing;
      }) to
