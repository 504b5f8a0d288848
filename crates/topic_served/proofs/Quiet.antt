-- Changes of a topic of which nobody need be told.
use Rattle.std.proofs.Common.{◌≡◌, ℕ, ◌≤◌, List, map, length, Some, Bool, true, false, cond, refl, ap, ◌∙◌, sym, subst, arith, inl, inr}
use Rattle.std.specs.Prelude.{slice_get}
use Rattle.std.specs.List.{position}
use Rattle.std.specs.Option.{option_map}
use Rattle.std.specs.FinMap as map_of
use Rattle.std.proofs.lemmas.Bool.{cases_eq}
use Rattle.std.proofs.lemmas.List.{length-map}
use Rattle.std.proofs.lemmas.Option.{slice_get-map, same_Some}
use Rattle.position_core.specs.declared.position.Position.{Position}
use Rattle.position_core.specs.declared.held.Held.{Held}
use Rattle.position_core.specs.Position.{same_position, positions_total}
use Rattle.delivery_machine.specs.State.{State, Subscription, Member, Producer}
use Rattle.delivery_machine.specs.Words.{changed, is_member, is_named, emptied, emptied_at}
use Rattle.delivery_machine.specs.Acknowledging.{forgetting}
use Rattle.delivery_machine.specs.Delivering.{holding}
use Rattle.delivery_machine.specs.Joining.{permitted}
use Rattle.delivery_machine.specs.Producing.{storing, stored, storing_below, stored_to}
use Rattle.machine_laws.proofs.OrderOverMembers.{emptied_ranks}
use Rattle.machine_laws.proofs.Ranks.{KeepsRanks, rank_of, ranks_changed}
use Rattle.delivery_machine.proofs.Tended.{position_is}
use Rattle.dispatch_core.specs.Changes.{Kept}
use Rattle.topic_served.specs.Happening.{AllKept}
use Rattle.topic_served.proofs.Seeing.{seen_alike, LooksAlike, alike_kept, all_alike, same_line, same_subscriptions, forgetting_ranks, changed_is, others_kept}

-- ---- members

pub kept_members : (s : State) (members : List Member) → KeepsRanks s.members members → AllKept s (record s { members = members })
kept_members s members ranks = same_subscriptions s (record s { members = members }) refl (omega arith) ranks refl

pub kept_permitted : (s : State) (consumer n : ℕ) → AllKept s (record s { members = changed (is_member consumer) (permitted n) s.members })
kept_permitted s consumer n = kept_members s (changed (is_member consumer) (permitted n) s.members) (ranks_changed (is_member consumer) (permitted n) (λ _. refl) s.members)

pub kept_collected : (s : State) (consumer : ℕ) → AllKept s (record s { members = changed (is_member consumer) emptied s.members })
kept_collected s consumer = kept_members s (changed (is_member consumer) emptied s.members) (ranks_changed (is_member consumer) emptied (λ _. refl) s.members)

pub kept_emptied : (s : State) (name : List ℕ) → AllKept s (record s { members = map (emptied_at name) s.members })
kept_emptied s name = kept_members s (map (emptied_at name) s.members) (emptied_ranks name s.members)

pub kept_forgetting : (s : State) (name : List ℕ) (positions : List Position) → AllKept s (record s { members = map (forgetting name positions) s.members })
kept_forgetting s name positions = kept_members s (map (forgetting name positions) s.members) (forgetting_ranks name positions s.members)

-- ---- producers, and what is given next

pub kept_counters : (s : State) (next_ordinal next_producer next_consumer : ℕ) (producers : List Producer) → AllKept s (record s { next_ordinal = next_ordinal; next_producer = next_producer; next_consumer = next_consumer; producers = producers })
kept_counters s next_ordinal next_producer next_consumer producers =
    same_subscriptions s (record s { next_ordinal = next_ordinal; next_producer = next_producer; next_consumer = next_consumer; producers = producers }) refl (omega arith) refl refl

-- ---- what is stored

all_mapped : (s t : State) (f : Subscription → Subscription) → ((sub : Subscription) → LooksAlike sub (f sub)) → t.log ≡ s.log → s.durable ≤ t.durable → t.members ≡ s.members → t.subscriptions ≡ map f s.subscriptions → AllKept s t
all_mapped s t f alike log durable members mapped =
    all_alike s t log durable (ap (λ (ms : List Member). map rank_of ms) members) (ap length mapped ∙ length-map s.subscriptions f)
    (λ k sub new was is.
    let one : f sub ≡ new = same_Some (f sub) new (sym (ap (λ (xs : List Subscription). slice_get xs k) mapped ∙ slice_get-map f s.subscriptions k ∙ ap (option_map f) was) ∙ is) in
    subst (λ (x : Subscription). LooksAlike sub x) one (alike sub))

pub kept_stored : (s : State) → s.durable ≤ length s.log → AllKept s (stored s)
kept_stored s within =
    all_mapped s (stored s) storing (λ sub. record { name = refl; kind = refl; shares = refl; messages = λ e. record { waits = refl; holder = refl } })
    refl within refl refl

pub kept_stored_to : (s : State) (count ordinal : ℕ) → AllKept s (stored_to s count ordinal)
kept_stored_to s count ordinal =
    all_mapped s (stored_to s count ordinal) (storing_below ordinal) (λ sub. record { name = refl; kind = refl; shares = refl; messages = λ e. record { waits = refl; holder = refl } })
    refl (omega arith) refl refl

-- ---- when what is pending falls due

-- at the same consumer
held_again : (position : Position) (held old : Held) (sub : Subscription) → map_of.get sub.pending position ≡ Some old → held.consumer ≡ old.consumer → LooksAlike sub (holding position held sub)
held_again position held old sub was same = record {
  name = refl;
  kind = refl;
  shares = refl;
  messages = λ e. seen_alike sub (holding position held sub) e refl refl
      (ap (λ o. option_map (λ (h : Held). h.consumer) o) (map_of.get-insert positions_total sub.pending position held e.position) ∙ by e.position (same_position e.position position) refl);
}
  where
    by : (q : Position) (b : Bool) → same_position q position ≡ b → option_map (λ (h : Held). h.consumer) (cond b (Some held) (map_of.get sub.pending q)) ≡ option_map (λ (h : Held). h.consumer) (map_of.get sub.pending q)
    by q true is = ap (λ (n : ℕ). Some n) same ∙ sym (ap (λ o. option_map (λ (h : Held). h.consumer) o) (ap (map_of.get sub.pending) (position_is q position is) ∙ was))
    by q false is = refl

module _ (s : State) (name : List ℕ) (i : ℕ) (sub : Subscription) (place : position (is_named name) s.subscriptions ≡ Some i) (was : slice_get s.subscriptions i ≡ Some sub) where
  -- where the one that changes looks alike
  pub kept_changed : (f : Subscription → Subscription) → LooksAlike sub (f sub) → AllKept s (record s { subscriptions = changed (is_named name) f s.subscriptions })
  kept_changed f alike =
      let t : State = record s { subscriptions = changed (is_named name) f s.subscriptions } in
      let others = others_kept s t name f i sub place was refl refl (omega arith) (λ k other _ _. same_line s t other other refl refl) in
      record {
        many = others.many;
        each = λ k x new was_k is_k. elim (cases_eq k i) [
          | inl here ↦
              let is_sub : sub ≡ x = same_Some sub x (sym was ∙ sym (ap (λ (n : ℕ). slice_get s.subscriptions n) here) ∙ was_k) in
              let is_new : f sub ≡ new = same_Some (f sub) new (sym (changed_is s t name f i sub place was refl) ∙ sym (ap (λ (n : ℕ). slice_get t.subscriptions n) here) ∙ is_k) in
              subst (λ (y : Subscription). Kept s y t new) is_sub (subst (λ (z : Subscription). Kept s sub t z) is_new (alike_kept s t sub (f sub) refl (omega arith) (same_line s t sub (f sub) alike.name refl) alike))
          | inr other ↦ others.each k x new other was_k is_k
        ];
      }

  pub kept_nacked : (position : Position) (held old : Held) → map_of.get sub.pending position ≡ Some old → held.consumer ≡ old.consumer → AllKept s (record s { subscriptions = changed (is_named name) (holding position held) s.subscriptions })
  kept_nacked position held old pending same = kept_changed (holding position held) (held_again position held old sub pending same)
