-- A pending message that waits again is released; a waiting one that is given to a member is sent.
use Rattle.std.proofs.Common.{◌≡◌, ℕ, List, [], ◌∷◌, Some, None, true, false, cond, refl, ap, ◌∙◌, sym, subst, arith}
use Rattle.std.specs.Prelude.{◌<◌, slice_get, length}
use Rattle.std.specs.FinMap as map_of
use Rattle.std.specs.List.{filter}
use Rattle.position_core.specs.declared.position.Position.{Position}
use Rattle.position_core.specs.declared.message.Entry.{Entry}
use Rattle.position_core.specs.declared.held.Held.{Held}
use Rattle.position_core.specs.Position.{position_cmp, same_position, positions_total}
use Rattle.log_pieces.specs.Pieces.{index_of}
use Rattle.delivery_machine.specs.State.{State, Subscription, Member}
use Rattle.delivery_machine.specs.Words.{count_of, is_live, is_member, is_waiting, visible}
use Rattle.delivery_machine.specs.Ticking.{redelivering, redelivered}
use Rattle.delivery_machine.specs.Delivering.{holding, given, sent, due_after}
use Rattle.delivery_machine.specs.WellFormed.{IsPendingWell}
use Rattle.delivery_machine.proofs.Messages.{position_itself, message_there}
use Rattle.delivery_machine.proofs.Passes.{passes}
use Rattle.machine_laws.proofs.Ranks.{ranks_changed}
use Rattle.delivery_machine.proofs.Retained.{removed_one}
use Rattle.dispatch_core.specs.Changes.{Released, Sent}
use Rattle.topic_served.specs.Happening.{HappensAt}
use Rattle.topic_served.specs.Stepping.{freeing, freed, recounted_one}
use Rattle.topic_served.proofs.Seeing.{happens, forgetting_ranks}
use Rattle.topic_served.proofs.Touching.{IsAbout, TouchesOne, released_there, sent_there}
use Rattle.topic_served.proofs.Gone.{got_apart, got_nowhere}
use Rattle.topic_served.proofs.Standing.{has_position_there, stands_there}

-- ---- released

removed_apart : (m : map_of.FinMap position_cmp Held) (p q : Position) → same_position q p ≡ false → map_of.get (map_of.remove m p) q ≡ map_of.get m q
removed_apart m p q differ = ap (λ (k : map_of.FinMap position_cmp Held). map_of.get k q) (removed_one m p) ∙ got_apart m p q differ

removed_nowhere : (m : map_of.FinMap position_cmp Held) (p : Position) → map_of.get (map_of.remove m p) p ≡ None
removed_nowhere m p = ap (λ (k : map_of.FinMap position_cmp Held). map_of.get k p) (removed_one m p) ∙ got_nowhere m p

touches_freed : (p : Position) (sub : Subscription) → TouchesOne p sub (freeing p sub)
touches_freed p sub = record {
  name = refl;
  kind = refl;
  shares = refl;
  acknowledged = λ q differ. refl;
  dead = λ q differ. refl;
  pending = removed_apart sub.pending p;
}

touches_redelivered : (p : Position) (sub : Subscription) → TouchesOne p sub (redelivering (p ∷ []) sub)
touches_redelivered p sub = record {
  name = refl;
  kind = refl;
  shares = refl;
  acknowledged = λ q differ. refl;
  dead = λ q differ. refl;
  pending = got_apart sub.pending p;
}

-- the message is live, and pending
pub record IsHeldLive (s : State) (sub : Subscription) (p : Position) (k : ℕ) : Type 0 where
  pub held : Held
  pub pending : map_of.get sub.pending p ≡ Some held
  pub message : Entry
  pub stands : slice_get s.log k ≡ Some message
  pub live : is_live sub message ≡ true

-- what is pending as a topic has it pending
pub held_live : (s : State) (sub : Subscription) (p : Position) (k : ℕ) (held : Held) → index_of p s.log ≡ Some k → map_of.get sub.pending p ≡ Some held → IsPendingWell s sub p held.consumer → IsHeldLive s sub p k
held_live s sub p k held stands pending well =
    let at = message_there (filter (is_live sub) (visible s)) p well.message in
    let here = stands_there s.log p k stands in
    record {
      held = held;
      pending = pending;
      message = here.0;
      stands = here.1;
      live = subst (λ (q : Position). is_live sub (record here.0 { position = q }) ≡ true) (at.2 ∙ sym here.2) (passes (is_live sub) (visible s) at.0 at.1);
    }

module _ (s : State) (name : List ℕ) (i : ℕ) (sub : Subscription) (p : Position) (k : ℕ) (about : IsAbout s name i sub p k) (held : IsHeldLive s sub p k) where
  -- so each message of the position is live, whatever else of the subscription changes
  alive : (e : Entry) → e.position ≡ p → is_live sub e ≡ true
  alive e is =
      let same : e.position ≡ held.message.position = is ∙ sym (has_position_there s.log p k held.message about.stands held.stands) in
      subst (λ (q : Position). is_live sub (record held.message { position = q }) ≡ true) (sym same) held.live

  pub released_freed : HappensAt i (Released k) s sub (freed s name p) (freeing p sub)
  released_freed =
      let t : State = freed s name p in
      happens s t name (freeing p) i sub about.place about.was refl (Released k) refl (omega arith) refl
      (released_there s t name i sub (freeing p sub) p k about refl refl refl (touches_freed p sub) held.held held.pending alive (removed_nowhere sub.pending p))

  pub released_recounted : HappensAt i (Released k) s sub (recounted_one s name p) (redelivering (p ∷ []) sub)
  released_recounted =
      let t : State = recounted_one s name p in
      happens s t name (redelivering (p ∷ [])) i sub about.place about.was refl (Released k) refl (omega arith) refl
      (released_there s t name i sub (redelivering (p ∷ []) sub) p k about refl refl refl (touches_redelivered p sub) held.held held.pending alive (got_nowhere sub.pending p))

  pub released_redelivered : HappensAt i (Released k) s sub (redelivered s name (p ∷ [])) (redelivering (p ∷ []) sub)
  released_redelivered =
      let t : State = redelivered s name (p ∷ []) in
      let ranks = forgetting_ranks name (p ∷ []) s.members in
      happens s t name (redelivering (p ∷ [])) i sub about.place about.was refl (Released k) refl (omega arith) ranks
      (released_there s t name i sub (redelivering (p ∷ []) sub) p k about refl refl ranks (touches_redelivered p sub) held.held held.pending alive (got_nowhere sub.pending p))

-- ---- sent

got_inserted : (m : map_of.FinMap position_cmp Held) (p : Position) (h : Held) (q : Position) → map_of.get (map_of.insert m p h) q ≡ cond (same_position q p) (Some h) (map_of.get m q)
got_inserted m p h q = map_of.get-insert positions_total m p h q

touches_held : (p : Position) (h : Held) (sub : Subscription) → TouchesOne p sub (holding p h sub)
touches_held p h sub = record {
  name = refl;
  kind = refl;
  shares = refl;
  acknowledged = λ q differ. refl;
  dead = λ q differ. refl;
  pending = λ q differ. got_inserted sub.pending p h q ∙ ap (λ b. cond b (Some h) (map_of.get sub.pending q)) differ;
}

module _ (s : State) (name : List ℕ) (i : ℕ) (sub : Subscription) (e : Entry) (k : ℕ) (m : Member) (now : ℕ) (about : IsAbout s name i sub e.position k) where
  pub sent_to : k < length (visible s) → is_waiting sub e ≡ true → HappensAt i (Sent k m.number) s sub (sent s name sub e m now) (holding e.position (record { consumer = m.number; due = due_after now m.ack_timeout }) sub)
  sent_to seen waited =
      let t : State = sent s name sub e m now in
      let h : Held = record { consumer = m.number; due = due_after now m.ack_timeout } in
      let ranks = ranks_changed (is_member m.number) (given (record { message = e; count = count_of sub e.position })) (λ _. refl) s.members in
      happens s t name (holding e.position h) i sub about.place about.was refl (Sent k m.number) refl (omega arith) ranks
      (sent_there s t name i sub (holding e.position h sub) e.position k about refl refl ranks (touches_held e.position h sub) h seen
      (λ x is. subst (λ (q : Position). is_waiting sub (record e { position = q }) ≡ true) (sym is) waited)
      (got_inserted sub.pending e.position h e.position ∙ ap (λ b. cond b (Some h) (map_of.get sub.pending e.position)) (position_itself e.position)))
