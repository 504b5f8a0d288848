-- A subscription that goes on from another message, or whose pending messages all wait again.
use Rattle.std.proofs.Common.{◌≡◌, ℕ, List, Some, None, Option, Bool, true, false, cond, take, refl, ap, ◌∙◌, sym, arith}
use Rattle.std.specs.Prelude.{slice_get, not}
use Rattle.std.specs.List.{position}
use Rattle.std.specs.Option.{option_map, option_and_then}
use Rattle.std.specs.FinMap as map_of
use Rattle.position_core.specs.declared.position.Position.{Position}
use Rattle.position_core.specs.declared.message.Entry.{Entry}
use Rattle.position_core.specs.declared.held.Held.{Held}
use Rattle.position_core.specs.Position.{position_cmp, exact_positions}
use Rattle.delivery_machine.specs.State.{State, Subscription}
use Rattle.delivery_machine.specs.Words.{is_named}
use Rattle.delivery_machine.specs.Acknowledging.{is_one_of}
use Rattle.delivery_machine.specs.Ticking.{redelivering, redelivered}
use Rattle.delivery_machine.specs.Joining.{releasing_all, all_released}
use Rattle.delivery_machine.specs.Seeking.{seeking, sought}
use Rattle.machine_laws.proofs.OrderOverMembers.{emptied_ranks}
use Rattle.dispatch_core.specs.Log.{holder_of, holder_at}
use Rattle.dispatch_core.specs.Changes.{Reset}
use Rattle.topic_served.specs.Happening.{HappensAt}
use Rattle.topic_served.proofs.Seeing.{forgetting_ranks, happens, same_line}

nobody_holds : (t : State) (new : Subscription) (k : ℕ) → ((q : Position) → map_of.get new.pending q ≡ None) → holder_at t new k ≡ None
unfolding holder_at
nobody_holds t new k nothing = by (slice_get t.log k)
  where
    by : (o : Option Entry) → option_and_then (holder_of new) o ≡ None
    by None = refl
    by (Some e) = ap (λ (o : Option Held). option_map (λ (h : Held). h.consumer) o) (nothing e.position)

-- where all that is pending is among the positions
nothing_left : (sub : Subscription) (positions : List Position) → ((q : Position) (h : Held) → map_of.get sub.pending q ≡ Some h → is_one_of positions q ≡ true) → (q : Position) → map_of.get (redelivering positions sub).pending q ≡ None
nothing_left sub positions all q =
    map_of.get-retain_keys sub.pending (λ p. not (is_one_of positions p)) q (λ x t. ap (λ p. not (is_one_of positions p)) (sym (exact_positions q x t)))
    ∙ by (map_of.get sub.pending q) refl
  where
    none_kept : (b : Bool) → ◌≡◌ {A = Option Held} (cond b None None) None
    none_kept true = refl
    none_kept false = refl

    by : (o : Option Held) → map_of.get sub.pending q ≡ o → cond (not (is_one_of positions q)) o None ≡ None
    by None is = none_kept (not (is_one_of positions q))
    by (Some h) is = ap (λ b. cond (not b) (Some h) None) (all q h is)

module _ (s : State) (name : List ℕ) (i : ℕ) (sub : Subscription) (place : position (is_named name) s.subscriptions ≡ Some i) (was : slice_get s.subscriptions i ≡ Some sub) where
  pub reset_sought : (count : ℕ) → HappensAt i Reset s sub (sought s name count) (seeking (take count s.log) sub)
  reset_sought count =
      let t : State = sought s name count in
      let ranks = emptied_ranks name s.members in
      happens s t name (seeking (take count s.log)) i sub place was refl Reset refl (omega arith) ranks
      (record {
        log = record { kind = refl; log = refl; durable = refl };
        line = same_line s t sub (seeking (take count s.log) sub) refl ranks;
        shares = refl;
        idle = λ k. nobody_holds t (seeking (take count s.log) sub) k (map_of.get-empty position_cmp);
      })

  pub reset_released : HappensAt i Reset s sub (all_released name s) (releasing_all sub)
  reset_released =
      let t : State = all_released name s in
      let ranks = emptied_ranks name s.members in
      happens s t name releasing_all i sub place was refl Reset refl (omega arith) ranks
      (record {
        log = record { kind = refl; log = refl; durable = refl };
        line = same_line s t sub (releasing_all sub) refl ranks;
        shares = refl;
        idle = λ k. nobody_holds t (releasing_all sub) k (map_of.get-empty position_cmp);
      })

  -- each message that was pending is counted once more
  pub reset_redelivered : (positions : List Position) → ((q : Position) (h : Held) → map_of.get sub.pending q ≡ Some h → is_one_of positions q ≡ true) → HappensAt i Reset s sub (redelivered s name positions) (redelivering positions sub)
  reset_redelivered positions all =
      let t : State = redelivered s name positions in
      let ranks = forgetting_ranks name positions s.members in
      happens s t name (redelivering positions) i sub place was refl Reset refl (omega arith) ranks
      (record {
        log = record { kind = refl; log = refl; durable = refl };
        line = same_line s t sub (redelivering positions sub) refl ranks;
        shares = refl;
        idle = λ k. nobody_holds t (redelivering positions sub) k (nothing_left sub positions all);
      })
