-- What holds of the world says how the deaths that were moved stand in the other topic.
use Rattle.std.proofs.Common.{◌≡◌, ℕ, ◌<◌, ◌≤◌, List, [], ◌∷◌, length, take, Bool, true, false, cond, ap, sym, subst, arith}
use Rattle.std.specs.Prelude.{◌^◌}
use Rattle.std.specs.List.{AllByRecursion, filter}
use mathlib.Core.List.{IsPrefix}
use Rattle.position_core.specs.declared.topic_name.TopicName.{TopicName}
use Rattle.position_core.specs.declared.message.Entry.{Entry}
use Rattle.delivery_machine.specs.State.{DeadLetter}
use Rattle.delivery_machine.specs.declared.event.Event.{Event}
use Rattle.delivery_machine.specs.declared.reply.Reply.{Reply}
use Rattle.dead_letters.specs.declared.route.Route.{Route}
use Rattle.dead_letters.specs.declared.hand.Hand.{Hand}
use Rattle.dead_letters.specs.declared.moving.Side.{Side}
use Rattle.dead_letters.specs.declared.moving.Side.TheVariants.{Source, Target}
use Rattle.dead_letters.specs.Worlds.{Topic, everything, World, Act, at_source, at_target, view_source, view_target, store_source, store_target, reopen_source, reopen_target, delete_source, delete_target, courier, turned_away, let_go, crash, Happens, AnswersAt, is_for}
use Rattle.dead_letters.specs.Laws.{MovedOnce, AreMoved, moved_to}
use Rattle.dead_letters.proofs.Fronts.{front_same, front_trans, front_pushed, front_before, front_length, front_filtered, front_mapped, front_of_taken, all_front, all_filtered, all_weaker}
use Rattle.dead_letters.proofs.Tags.{Rise, rise_front, AreBelow, letter_tags, copy_tag, copy_tags}
use Rattle.dead_letters.proofs.TargetSteps.{copies}
use Rattle.dead_letters.proofs.Topics.{all_kept, answer_goes, all_go_on}
use Rattle.dead_letters.proofs.Deaths.{dead_at, safe_at, safe_deaths, safe_known}
use Rattle.dead_letters.proofs.Hands.{wanted}
use Rattle.dead_letters.proofs.Invariant.{Holds as Stays}
use Rattle.dead_letters.proofs.AllActs.{acts_hold, always}
use Rattle.dead_letters.proofs.Standing.{are_moved}

rise_filtered : (p : DeadLetter → Bool) (ds : List DeadLetter) → Rise ds → Rise (filter p ds)
rise_filtered p [] rise = tt
rise_filtered p (d ∷ ds) rise = by (p d) (rise_filtered p ds rise.1)
  where
    by : (b : Bool) → Rise (filter p ds) → Rise (cond b (d ∷ filter p ds) (filter p ds))
    by true rest = (all_filtered (λ (e : DeadLetter). d.ordinal < e.ordinal) p ds rise.0, rest)
    by false rest = rest

module _ (route : Route) (target : TopicName) where
  abbrev n : List ℕ
  n = route.subscription

  abbrev Is : World → Type 0
  Is w = Stays route target w

  -- among messages that begin the target's, and have as many copies as were moved
  stands_in : (v : World) (log : List Entry) → Is v → IsPrefix log (everything v.target) → length (wanted target v.moved) ≤ length (copies route.name log) → AreMoved route (everything v.source) log (moved_to target v)
  stands_in v log holds front low =
      let s = v.source.state in
      let all = safe_deaths n s v.moved in
      let begins = front_before v.moved (take (safe_at s n) (dead_at s n)) (dead_at s n) (front_of_taken (safe_at s n) (dead_at s n)) in
      let rise : Rise all = rise_front all begins.0 (subst Rise (sym begins.1) holds.source_side.stands.rise) in
      let below : AreBelow s.next_ordinal all = all_front _ all begins.0 (subst (AreBelow s.next_ordinal) (sym begins.1) holds.source_side.stands.below) in
      let most = ((all_kept s holds.source_side.is.reached).well.ordinals).last_ordinal in
      let room : AllByRecursion (λ (d : DeadLetter). d.ordinal ≤ 2 ^ 62) all = all_weaker (λ (d : DeadLetter). d.ordinal < s.next_ordinal) (λ (d : DeadLetter). d.ordinal ≤ 2 ^ 62) all (λ d under. omega arith) below in
      are_moved route (everything v.source) log (wanted target v.moved) (wanted target all)
      (front_trans (copy_tags (copies route.name log)) (copy_tags (copies route.name (everything v.target))) (letter_tags (everything v.source) (wanted target all))
      (front_mapped copy_tag (copies route.name log) (copies route.name (everything v.target)) (front_filtered _ log (everything v.target) front)) holds.copied)
      (front_filtered (is_for target) v.moved all (front_pushed v.moved (take (safe_at s n) (dead_at s n)))) low
      (rise_filtered (is_for target) all rise) (all_filtered _ (is_for target) all room) (all_filtered _ (is_for target) all (safe_known n v.source v.moved holds.source_side.stands))

  -- ---- what was stored of the target before the act

  record Before (w v : World) : Type 0 where
    log : IsPrefix (everything w.target_stored) (everything v.target)
    copies : length (wanted target v.moved) ≤ length (copies route.name (everything w.target_stored))

  -- where the act stores nothing of the target
  unstored : (w v : World) → Is v → IsPrefix (everything w.target_stored) (everything v.target) → v.target_stored ≡ w.target_stored → Before w v
  unstored w v holds log same = record {
    log = log;
    copies = subst (λ (s : Topic). length (wanted target v.moved) ≤ length (copies route.name (everything s))) same holds.in_stored;
  }

  at_side : (side : Side) (w : World) (event : Event) (reply : Reply) (hands : ℕ → Hand) (v : World) → AnswersAt route side w event reply hands v → IsPrefix (everything w.target) (everything v.target) × (v.target_stored ≡ w.target_stored)
  at_side Source w event reply hands v h = (subst (λ (x : World). IsPrefix (everything w.target) (everything x.target)) (sym h.2) (front_same (everything w.target)), ap (λ (x : World). x.target_stored) h.2)
  at_side Target w event reply hands v h = (subst (λ (x : World). IsPrefix (everything w.target) (everything x.target)) (sym h.2) (all_go_on w.target h.0 (answer_goes w.target.state event reply h.0 h.1)), ap (λ (x : World). x.target_stored) h.2)

  from_side : (side : Side) (w : World) (event : Event) (reply : Reply) (hands : ℕ → Hand) (v : World) → Is w → Is v → AnswersAt route side w event reply hands v → Before w v
  from_side side w event reply hands v before after h =
      let at = at_side side w event reply hands v h in
      unstored w v after (front_trans (everything w.target_stored) (everything w.target) (everything v.target) before.target_side.under_stored.log at.0) at.1

  was_before : (w : World) (act : Act) (v : World) → Is w → Is v → Happens route target w act v → Before w v
  was_before w (at_source event reply) v before after h = from_side Source w event reply w.hands v before after h.2
  was_before w (at_target event reply) v before after h = from_side Target w event reply w.hands v before after h.2
  was_before w view_source v before after h = unstored w v after (subst (λ (x : World). IsPrefix (everything w.target_stored) (everything x.target)) (sym h) before.target_side.under_stored.log) (ap (λ (x : World). x.target_stored) h)
  was_before w view_target v before after h = unstored w v after (subst (λ (x : World). IsPrefix (everything w.target_stored) (everything x.target)) (sym h) before.target_side.under_stored.log) (ap (λ (x : World). x.target_stored) h)
  was_before w store_source v before after h = unstored w v after (subst (λ (x : World). IsPrefix (everything w.target_stored) (everything x.target)) (sym h) before.target_side.under_stored.log) (ap (λ (x : World). x.target_stored) h)
  was_before w store_target v before after h = subst (Before w) (sym h) (record { log = before.target_side.under_stored.log; copies = before.in_stored })
  was_before w reopen_source v before after h = unstored w v after (subst (λ (x : World). IsPrefix (everything w.target_stored) (everything x.target)) (sym h.1) before.target_side.under_stored.log) (ap (λ (x : World). x.target_stored) h.1)
  was_before w reopen_target v before after h = subst (Before w) (sym h.1) (record { log = before.target_side.under_stored.log; copies = before.in_stored })
  was_before w delete_source v before after h = unstored w v after (subst (λ (x : World). IsPrefix (everything w.target_stored) (everything x.target)) (sym h.1) before.target_side.under_stored.log) (ap (λ (x : World). x.target_stored) h.1)
  was_before w delete_target v before after h =
      subst (Before w) (sym h.1) (record { log = front_trans (everything w.target_stored) (everything w.target) _ before.target_side.under_stored.log (front_pushed (everything w.target) []); copies = before.in_stored })
  was_before w (courier number now reply) v before after h = from_side _ w _ reply _ v before after h
  was_before w (turned_away number fault) v before after h = unstored w v after (subst (λ (x : World). IsPrefix (everything w.target_stored) (everything x.target)) (sym h) before.target_side.under_stored.log) (ap (λ (x : World). x.target_stored) h)
  was_before w (let_go number) v before after h = unstored w v after (subst (λ (x : World). IsPrefix (everything w.target_stored) (everything x.target)) (sym h) before.target_side.under_stored.log) (ap (λ (x : World). x.target_stored) h)
  was_before w crash v before after h = unstored w v after (subst (λ (x : World). IsPrefix (everything w.target_stored) (everything x.target)) (sym h) (front_same (everything w.target_stored))) (ap (λ (x : World). x.target_stored) h)

pub moved_once : MovedOnce
moved_once route target ledger_size acts w act v named goes acts_on =
    let before = always route target route.source ledger_size acts w named goes in
    let after = acts_hold route target w act v acts_on before in
    let was = was_before route target w act v before after acts_on in
    let stored = after.target_side.under_stored.log in
    let more = front_length (copies route.name (everything v.target_stored)) (copies route.name (everything v.target)) (front_filtered _ (everything v.target_stored) (everything v.target) stored) in
    let had = after.in_stored in (
      stands_in route target v (everything v.target) after (front_same (everything v.target)) (omega arith),
      stands_in route target v (everything v.target_stored) after stored after.in_stored,
      stands_in route target v (everything w.target_stored) after was.log was.copies,
    )
