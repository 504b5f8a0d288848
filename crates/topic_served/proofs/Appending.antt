-- A message that is appended, or taken back, as each subscription sees it.
use Rattle.std.proofs.Common.{◌≡◌, ℕ, ◌<◌, ◌≤◌, List, Some, None, Option, Bool, true, false, length, refl, ap, ◌∙◌, sym, subst, Contains, true≢false}
use Rattle.std.specs.Prelude.{slice_get, not, ◌&&◌, is_some}
use Rattle.std.specs.Option.{option_map, option_map_or, option_and_then}
use Rattle.std.specs.FinSet as set
use Rattle.std.specs.FinMap as map_of
use Rattle.std.specs.declared.cmp.Ordering.TheVariants.{Less}
use Rattle.std.proofs.lemmas.List.Elements.{All-contains}
use Rattle.std.proofs.lemmas.List.Folds.{Any-from_list_any}
use Rattle.std.proofs.lemmas.Option.{same_Some}
use Rattle.position_core.specs.declared.position.Position.{Position}
use Rattle.position_core.specs.declared.message.Entry.{Entry}
use Rattle.position_core.specs.declared.held.Held.{Held}
use Rattle.position_core.specs.Position.{position_cmp, same_position}
use Rattle.delivery_machine.specs.State.{State, Subscription, DeadLetter}
use Rattle.delivery_machine.specs.Words.{is_dead, is_waiting, visible}
use Rattle.delivery_machine.specs.Producing.{with_message}
use Rattle.delivery_machine.specs.WellFormed.{has_message, IsWellFormedIn}
use Rattle.delivery_machine.proofs.Messages.{message_there, message_among}
use Rattle.delivery_machine.proofs.Rising.{not_below_itself}
use Rattle.delivery_machine.proofs.Firsts.{filter_contained}
use Rattle.delivery_machine.proofs.Messages.{message_taken}
use Rattle.delivery_machine.proofs.Tended.{position_is}
use Rattle.dispatch_core.specs.Log.{waits_at, holder_of, holder_at}
use Rattle.dispatch_core.specs.Changes.{StaysAt, Appended, TakenBack}
use Rattle.topic_served.specs.declared.dispatch.Dispatch.{Dispatch}
use Rattle.topic_served.specs.Told.{AreTold}
use Rattle.topic_served.proofs.Agreed.{told_appended, told_taken_back}
use Rattle.topic_served.proofs.Seeing.{same_line, waits_is, holder_is}
use Rattle.topic_served.proofs.Spots.{appended_before, appended_at}

-- what the subscription keeps is of messages of the log
pub record IsOfLog (log : List Entry) (sub : Subscription) : Type 0 where
  pub acknowledged : (q : Position) → set.contains sub.acknowledged q ≡ true → has_message log q ≡ true
  pub dead : (q : Position) → is_dead sub q ≡ true → has_message log q ≡ true
  pub pending : (q : Position) (h : Held) → map_of.get sub.pending q ≡ Some h → has_message log q ≡ true

-- as in a topic that is well formed
pub well_of_log : (s : State) (sub : Subscription) → IsWellFormedIn s sub → IsOfLog s.log sub
well_of_log s sub well = record {
  acknowledged = well.acknowledged;
  dead = λ q is.
      let at = Any-from_list_any (λ (d : DeadLetter). same_position d.position q) sub.dead is in
      subst (λ (p : Position). has_message s.log p ≡ true) (position_is at.1.position q at.4) (All-contains (λ (d : DeadLetter). has_message s.log d.position ≡ true) sub.dead at.1 well.dead.messages (at.0, at.2, at.3));
  pending = λ q h is.
      message_taken s.durable s.log q
      (message_among _ (visible s) q (λ e at. filter_contained _ (visible s) e at) (well.pending q h is).message);
}

module _ (s : State) (e : Entry) (above : (x : Entry) → Contains s.log x → position_cmp x.position e.position ≡ Less) where
  -- no message has its position
  no_message : has_message s.log e.position ≡ false
  no_message = by (has_message s.log e.position) refl
    where
      by : (b : Bool) → has_message s.log e.position ≡ b → b ≡ false
      by false is = refl
      by true is =
          let at = message_there s.log e.position is in
          absurd (not_below_itself e.position (subst (λ (q : Position). position_cmp q e.position ≡ Less) at.2 (above at.0 at.1)))

  none_has : (b : Bool) → (b ≡ true → has_message s.log e.position ≡ true) → b ≡ false
  none_has true has = absurd (true≢false (sym (has refl) ∙ no_message))
  none_has false has = refl

  nobody_holds : (o : Option Held) → ((h : Held) → o ≡ Some h → has_message s.log e.position ≡ true) → o ≡ None
  nobody_holds None has = refl
  nobody_holds (Some h) has = absurd (true≢false (sym (has h refl) ∙ no_message))

  module _ (sub : Subscription) (of_log : IsOfLog s.log sub) where
    held_nowhere : map_of.get sub.pending e.position ≡ None
    held_nowhere = nobody_holds (map_of.get sub.pending e.position) (of_log.pending e.position)

    waits : is_waiting sub e ≡ true
    waits =
        ap (λ b. (not b && not (is_dead sub e.position)) && not (map_of.contains_key sub.pending e.position)) (none_has (set.contains sub.acknowledged e.position) (of_log.acknowledged e.position))
        ∙ ap (λ b. not b && not (map_of.contains_key sub.pending e.position)) (none_has (is_dead sub e.position) (of_log.dead e.position))
        ∙ ap (λ (o : Option Held). not (is_some o)) held_nowhere

    stays : (k : ℕ) → k < length s.log → StaysAt k s sub (with_message s e) sub
    unfolding waits_at holder_at
    stays k before = record {
      waits = ap (λ o. option_map_or (is_waiting sub) o false) (appended_before s.log e k before);
      holder = ap (λ o. option_and_then (holder_of sub) o) (appended_before s.log e k before);
    }

    pub appended : Appended s sub (with_message s e) sub
    appended = record {
      kind = refl;
      message = e;
      log = refl;
      durable = refl;
      line = same_line s (with_message s e) sub sub refl refl;
      shares = refl;
      others = stays;
      waits = waits_is (with_message s e) sub (length s.log) e (appended_at s.log e) ∙ waits;
      holder =
          holder_is (with_message s e) sub (length s.log) e (appended_at s.log e)
          ∙ ap (λ (o : Option Held). option_map (λ (h : Held). h.consumer) o) held_nowhere;
    }

    pub taken_back : s.durable ≤ length s.log → TakenBack (with_message s e) sub s sub
    taken_back unseen = record { appended = appended; unseen = unseen }

  module _ (ds : List Dispatch) (of_log : (k : ℕ) (sub : Subscription) → slice_get s.subscriptions k ≡ Some sub → IsOfLog s.log sub) where
    pub told_message : AreTold ds s → AreTold ds (with_message s e)
    told_message told =
        told_appended ds s (with_message s e) told refl
        (λ k sub new was is.
        subst (λ (x : Subscription). Appended s sub (with_message s e) x) (same_Some sub new (sym was ∙ is)) (appended sub (of_log k sub was)))

    pub told_message_back : s.durable ≤ length s.log → AreTold ds (with_message s e) → AreTold ds s
    told_message_back unseen told =
        told_taken_back ds (with_message s e) s told refl
        (λ k sub new was is.
        subst (λ (x : Subscription). TakenBack (with_message s e) sub s x) (same_Some sub new (sym was ∙ is)) (taken_back sub (of_log k sub was) unseen))
