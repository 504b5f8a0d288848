-- What was kept of a subscription, over the log again.
use Rattle.std.proofs.Common.{◌≡◌, ℕ, List, [], Some, None, Option, Bool, true, false, refl, ap, ap₂, ◌∙◌, sym, slice_get, subst}
use Rattle.std.specs.Prelude.{◌||◌, ◌&&◌, not, is_some, nat_eq}
use Rattle.std.specs.List.{filter, list_any}
use Rattle.std.specs.Ordering.{nat_cmp}
use Rattle.std.specs.FinSet as set
use Rattle.std.specs.FinMap as map_of
use Rattle.std.proofs.lemmas.Bool.{false≢true, eqb-true}
use Rattle.std.proofs.lemmas.Map.Views.{any-filter_same}
use Rattle.position_core.specs.declared.message.Entry.{Entry}
use Rattle.position_core.specs.declared.position.Position.{Position}
use Rattle.log_pieces.specs.Pieces.{index_of, stands_at}
use Rattle.position_core.specs.declared.held.Held.{Held}
use Rattle.position_core.specs.Position.{position_cmp, same_position}
use Rattle.delivery_machine.specs.Places.{KeptPlaces, positions_at}
use Rattle.delivery_machine.specs.WellFormed.{has_message}
use Rattle.delivery_machine.specs.Words.{is_live}
use Rattle.delivery_machine.proofs.Places.{none_passes}
use Rattle.delivery_machine.specs.State.{DeadLetter}
use Rattle.delivery_machine.proofs.Deciding.{and_second}
use Rattle.topic_subscriptions.specs.Placed.{IsLiveIn, IsPlacedIn, IsRising, Placed, StandAt, is_live_at, restored_from, sub_in}
use Rattle.topic_subscriptions.proofs.Changes.{stands}
use Rattle.topic_subscriptions.proofs.Dying.{dead_at, dead_below}
use Rattle.topic_subscriptions.proofs.Links.{contains_at}
use Rattle.topic_core.specs.Restored.{IsRestoredFrom, IsSoundOver}

-- a message of the log has an index
index_there : (log : List Entry) (q : Position) → has_message log q ≡ true → (i : ℕ) × (index_of q log ≡ Some i)
index_there log q there = by (index_of q log) refl
  where
    by : (o : Option ℕ) → index_of q log ≡ o → (i : ℕ) × (index_of q log ≡ Some i)
    by None is = absurd (false≢true (sym (none_passes (stands_at q) log (sym is)) ∙ there))
    by (Some i) is = (i, is)

module _ (log : List Entry) (kept : KeptPlaces) (dead : List ℕ) (rising : IsRising log) (sound : IsSoundOver log kept) (stand : StandAt log kept.dead dead) where
  buried_at : (k : ℕ) → set.contains (set.from_list {R = nat_cmp} (filter (λ place. not (set.contains kept.acknowledged place)) dead)) k ≡ (not (set.contains kept.acknowledged k) && list_any (λ y. nat_eq y k) dead)
  buried_at k =
      set.contains-from_list_nat (filter (λ place. not (set.contains kept.acknowledged place)) dead) k
      ∙ any-filter_same (λ y. nat_eq y k) (λ place. not (set.contains kept.acknowledged place)) (not (set.contains kept.acknowledged k)) (λ y same. ap (λ (n : ℕ). not (set.contains kept.acknowledged n)) (eqb-true y k same)) dead

  parts : (a d : Bool) → (not a && not d) ≡ not (a || (not a && d))
  parts true true = refl
  parts true false = refl
  parts false true = refl
  parts false false = refl

  live_there : (k : ℕ) (d : Entry) → slice_get log k ≡ Some d → is_live (sub_in log (restored_from kept dead)) d ≡ is_live_at (restored_from kept dead) k
  live_there k d there =
      ap₂ (λ a b. not a && not b) (contains_at log kept.acknowledged k d rising there) (sym (dead_at log rising kept.dead dead stand k d there))
      ∙ parts (set.contains kept.acknowledged k) (list_any (λ y. nat_eq y k) dead)
      ∙ sym (ap (λ b. not (set.contains kept.acknowledged k || b)) (buried_at k))

  -- a message that was counted waits
  waits_still : (q : Position) (o : Option ℕ) → map_of.get kept.counts q ≡ o → is_some o ≡ true → IsLiveIn log (restored_from kept dead) q
  waits_still q None got some = absurd (false≢true some)
  waits_still q (Some n) got some =
      let well = sound.counted q n got in
      let at = index_there log q well.message in
      let here = stands log q at.0 at.1 in
      let e = here.0 in
      let waits : is_live (sub_in log (restored_from kept dead)) e ≡ true = ap (λ (p : Position). not (set.contains (positions_at log kept.acknowledged) p) && not (list_any (λ (d : DeadLetter). same_position d.position p) kept.dead)) here.2 ∙ ap₂ (λ a b. not a && not b) well.waits well.lives in
      record { place = at.0; there = at.1; live = sym (live_there at.0 e here.1) ∙ waits }

  pub restored_placed : IsPlacedIn log [] (restored_from kept dead)
  restored_placed = record {
    within = sound.within;
    buried_within = λ k inside. dead_below log kept.dead dead stand k (and_second (not (set.contains kept.acknowledged k)) (list_any (λ y. nat_eq y k) dead) (sym (buried_at k) ∙ inside));
    live = live_there;
    line = refl;
    pending = λ q key. absurd (false≢true (sym (ap is_some (map_of.get-empty {X = Held} position_cmp q)) ∙ key));
    counted = λ q key. waits_still q (map_of.get kept.counts q) refl key;
  }

  pub restored_from_kept : (p : Placed) → p ≡ restored_from kept dead → IsRestoredFrom log kept p
  restored_from_kept p is = subst (λ (q : Placed). IsRestoredFrom log kept q) (sym is) (record { state = refl; placed = restored_placed; alone = record { line = refl; shares = refl } })
