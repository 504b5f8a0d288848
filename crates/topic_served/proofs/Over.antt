-- The first messages of the log, where all of them are acknowledged.
use Rattle.std.proofs.Common.{◌≡◌, ℕ, zero, suc, ◌<◌, List, [], ◌∷◌, map, Some, None, Option, Bool, true, false, cond, get_or, slice_get, refl, ap, ◌∙◌, sym, subst, Contains, arith, true≢false}
use Rattle.std.specs.Prelude.{◌||◌, not, is_some, IsTrue}
use Rattle.std.specs.List.{find, position}
use Rattle.std.specs.Option.{option_map_or}
use Rattle.std.specs.FinSet as set_of
use Rattle.std.specs.FinMap as map_of
use Rattle.std.proofs.lemmas.List.{get_or_default}
use Rattle.std.proofs.lemmas.Option.{get_or_from_slice_get}
use Rattle.std.proofs.lemmas.List.Elements.{All-contains}
use Rattle.position_core.specs.declared.position.Position.{Position}
use Rattle.position_core.specs.declared.message.Entry.{Entry}
use Rattle.position_core.specs.declared.held.Held.{Held}
use Rattle.position_core.specs.Position.{same_position}
use Rattle.delivery_machine.specs.State.{Member, Subscription}
use Rattle.delivery_machine.specs.Words.{is_at, is_held_at, is_held_by, is_named}
use Rattle.delivery_machine.specs.Acknowledging.{forgetting, is_one_of, without}
use Rattle.delivery_machine.specs.Places.{positions_at}
use Rattle.delivery_machine.specs.WellFormed.{IsSentWell, IsWellFormed}
use Rattle.delivery_machine.specs.declared.delivery.Delivery.{Delivery}
use Rattle.delivery_machine.proofs.Behind.{same_name}
use Rattle.delivery_machine.proofs.Tended.{position_is}
use Rattle.topic_subscriptions.specs.Placed.{IsLiveIn, IsPlacedIn, IsRising, Placed, is_placed, sub_in}
use Rattle.topic_subscriptions.proofs.Links.{contains_at}
use Rattle.topic_parts.specs.Parts.{log_of, state_of}
use Rattle.topic_parts.specs.declared.parts.Parts.{Parts}
use Rattle.topic_parts.proofs.Acknowledged.{stands}
use Rattle.topic_parts.proofs.Forgotten.{filter_all, map_none}
use Rattle.topic_served.specs.Firsts.{firsts}
use Rattle.topic_served.proofs.Merging.{AreOver}
use Rattle.topic_served.proofs.Telling.{at_place, named_place}
use Rattle.delivery_machine.proofs.Places.{find-position}

pub one_of_firsts : (n : ℕ) (log : List Entry) (q : Position) → is_one_of (firsts n log) q ≡ true → (k : ℕ) × (e : Entry) × (slice_get log k ≡ Some e) × (k < n) × (e.position ≡ q)
one_of_firsts zero log q one = absurd (true≢false (sym one))
one_of_firsts (suc n) [] q one = absurd (true≢false (sym one))
one_of_firsts (suc n) (x ∷ log) q one = by (same_position q x.position) refl one (one_of_firsts n log q)
  where
    by : (b : Bool) → same_position q x.position ≡ b → (b || is_one_of (firsts n log) q) ≡ true
        → (is_one_of (firsts n log) q ≡ true → (k : ℕ) × (e : Entry) × (slice_get log k ≡ Some e) × (k < n) × (e.position ≡ q))
        → (k : ℕ) × (e : Entry) × (slice_get (x ∷ log) k ≡ Some e) × (k < suc n) × (e.position ≡ q)
    by true same found rest = (0, x, refl, omega arith, sym (position_is q x.position same))
    by false differ found rest = (let at = rest found in (suc at.0, at.1, at.2, omega (arith, at.3), at.4))

module _ (t : Parts) (name : List ℕ) (place : ℕ) (x : Placed) (n : ℕ) (well : IsWellFormed (state_of t)) (rising : IsRising (log_of t))
    (there : Some place ≡ position (is_placed name) t.subscriptions.items) (at : Some x ≡ slice_get t.subscriptions.items place)
    (placed : IsPlacedIn (log_of t) t.members.members x) (all : (k : ℕ) → k < n → set_of.contains x.places k ≡ true) where
  log : List Entry
  log = log_of t

  sub : Subscription
  sub = sub_in (log_of t) x

  named : find (is_named name) (state_of t).subscriptions ≡ Some (sub_in (log_of t) x)
  named = find-position (is_named name) (state_of t).subscriptions place (sub_in (log_of t) x) (named_place t name place there) ∙ ap (λ (s : Subscription). Some s) got
    where
      got : get_or (state_of t).subscriptions place (sub_in (log_of t) x) ≡ sub_in (log_of t) x
      got = get_or_from_slice_get (state_of t).subscriptions place (sub_in (log_of t) x) (sub_in (log_of t) x) (at_place t place x at)

  are_acknowledged : (q : Position) → is_one_of (firsts n (log_of t)) q ≡ true → set_of.contains (positions_at (log_of t) x.places) q ≡ true
  are_acknowledged q one =
      let e = one_of_firsts n (log_of t) q one in
      ap (set_of.contains (positions_at (log_of t) x.places)) (sym e.4) ∙ contains_at (log_of t) x.places e.0 e.1 rising e.2 ∙ all e.0 e.3

  -- what is live is not acknowledged
  not_live : (q : Position) → is_one_of (firsts n (log_of t)) q ≡ true → IsLiveIn (log_of t) x q → ⊥
  not_live q one live =
      let d = stands (log_of t) q live.place live.there in
      let inside = sym (contains_at (log_of t) x.places live.place d.0 rising d.1) ∙ ap (set_of.contains (positions_at (log_of t) x.places)) d.2 ∙ are_acknowledged q one in
      true≢false (sym live.live ∙ ap (λ b. not (b || set_of.contains x.buried live.place)) inside)

  nowhere : {X : Type 0} (o : Option X) → (is_some o ≡ true → ⊥) → o ≡ None
  nowhere None none = refl
  nowhere (Some v) none = absurd (none refl)

  pub over_first : AreOver (state_of t) name (sub_in (log_of t) x) (firsts n (log_of t))
  over_first = record {
    named = named;
    acknowledged = are_acknowledged;
    pending = λ q one. nowhere (map_of.get x.pending.pending q) (λ key. not_live q one (placed.pending q key));
    counts = λ q one. nowhere (map_of.get x.pending.counts q) (λ key. not_live q one (placed.counted q key));
    out = by t.members.members refl;
  }
    where
      stays : (m : Member) → Contains t.members.members m → forgetting name (firsts n (log_of t)) m ≡ m
      stays m there_m = by_name (is_at name m) refl
        where
          keeps : Delivery → Bool
          keeps d = not (is_one_of (firsts n (log_of t)) d.message.position)

          kept : m.subscription ≡ name → (d : Delivery) → Contains m.out d → keeps d ≡ true
          kept is d out = by_one (is_one_of (firsts n (log_of t)) d.message.position) refl
            where
              held : is_held_at (state_of t) m.subscription m.number d.message.position ≡ true
              held =
                  let sent : IsSentWell (state_of t) m = All-contains (IsSentWell (state_of t)) t.members.members m well.sent there_m in
                  let one = All-contains (λ (z : Delivery). Contains (log_of t) z.message × IsTrue (is_held_at (state_of t) m.subscription m.number z.message.position)) m.out d sent out in
                  one.1

              held_here : is_held_by m.number (map_of.get x.pending.pending d.message.position) ≡ true
              held_here = sym (ap (λ (o : Option Subscription). option_map_or (λ (z : Subscription). is_held_by m.number (map_of.get z.pending d.message.position)) o false) (ap (λ (k : List ℕ). find (is_named k) (state_of t).subscriptions) is ∙ named)) ∙ held

              key_of : (o : Option Held) → is_held_by m.number o ≡ true → is_some o ≡ true
              key_of None none = absurd (true≢false (sym none))
              key_of (Some h) some = refl

              by_one : (b : Bool) → is_one_of (firsts n (log_of t)) d.message.position ≡ b → not (is_one_of (firsts n (log_of t)) d.message.position) ≡ true
              by_one true one = absurd (not_live d.message.position one (placed.pending d.message.position (key_of (map_of.get x.pending.pending d.message.position) held_here)))
              by_one false other = ap not other

          by_name : (b : Bool) → is_at name m ≡ b → forgetting name (firsts n (log_of t)) m ≡ m
          by_name true is =
              ap (λ b. cond b (record m { out = without (firsts n (log_of t)) m.out }) m) is
              ∙ ap (λ (out : List Delivery). record m { out = out }) (filter_all keeps m.out (kept (same_name m.subscription name is)))
          by_name false elsewhere = ap (λ b. cond b (record m { out = without (firsts n (log_of t)) m.out }) m) elsewhere

      by : (ms : List Member) → ms ≡ t.members.members → map (forgetting name (firsts n (log_of t))) t.members.members ≡ t.members.members
      by [] e = subst (λ (xs : List Member). map (forgetting name (firsts n (log_of t))) xs ≡ xs) e refl
      by (m ∷ ms) e = map_none (forgetting name (firsts n (log_of t))) t.members.members m (λ k low. stays (get_or t.members.members k m) (k, low, get_or_default t.members.members k (get_or t.members.members k m) m low))
