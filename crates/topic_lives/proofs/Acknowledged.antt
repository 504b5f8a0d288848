-- What is acknowledged stays so over a topic's life, or is past, and is not sent, but where the subscription is sought or dropped.
use Rattle.std.proofs.Common.{◌≡◌, ℕ, ◌≤◌, ◌^◌, List, [], ◌∷◌, map, ◌⊎◌, Some, None, Option, Bool, true, false, cond, refl, ◌∙◌, sym, subst, inl, inr, true≢false}
use Rattle.std.specs.List.{find}
use Rattle.std.specs.Option.{option_map_or}
use Rattle.std.specs.FinSet as set
use Rattle.std.proofs.lemmas.List.Elements.{All-contains}
use Rattle.position_core.specs.declared.position.Position.{Position}
use Rattle.position_core.specs.declared.message.Entry.{Entry}
use Rattle.delivery_machine.specs.State.{State, Subscription}
use Rattle.delivery_machine.specs.Snapshot.{kept_of, subscription_from}
use Rattle.delivery_machine.specs.Words.{is_named, used_after}
use Rattle.delivery_machine.specs.WellFormed.{has_message}
use Rattle.delivery_machine.specs.Laws.{IsReached, is_acknowledged_at, is_reset, is_sent_at}
use Rattle.delivery_machine.proofs.Deciding.{or_false, both_false}
use Rattle.delivery_machine.proofs.Messages.{message_there}
use Rattle.delivery_machine.proofs.Rising.{is_below}
use Rattle.machine_laws.proofs.Acknowledged.{step_stays, step_sends_other}
use Rattle.machine_laws.proofs.Past.{IsPast}
use Rattle.machine_laws.proofs.WellReached.{reached_all}
use Rattle.topic_lives.specs.Lives.{Deed, Does, Lives, some_deed}
use Rattle.topic_lives.specs.Lives.Deed.{asked, goes_on, begins_again}
use Rattle.topic_lives.proofs.Past.{rising_reached, does_reach, does_past, past_made_again}

module _ (name : List ℕ) (position : Position) where
  abbrev pub stands : State → Type 0
  stands s = is_acknowledged_at s name position ≡ true

  -- what is acknowledged is a message of the log
  acknowledged_logged : (s : State) → IsReached s → stands s → has_message s.log position ≡ true
  acknowledged_logged s at there = by (find (is_named name) s.subscriptions) refl there
    where
      by : (o : Option Subscription) → find (is_named name) s.subscriptions ≡ o → option_map_or (λ sub. set.contains sub.acknowledged position) o false ≡ true → has_message s.log position ≡ true
      by None found there = absurd (true≢false (sym there))
      by (Some sub) found there = ((reached_all at.0 at.1 at.2 s at.3 at.4).well.each name sub found).acknowledged position there

  stood : (s : State) → IsReached s → stands s → (is_below s.ledger (used_after s.ledger s.log) position ≡ true) × (position.ledger ≤ 2 ^ 62)
  stood s at there =
      let rising = rising_reached s at in
      let one = message_there s.log position (acknowledged_logged s at there) in (
        subst (λ (p : Position). is_below s.ledger (used_after s.ledger s.log) p ≡ true) one.2
            (All-contains (λ (e : Entry). is_below s.ledger (used_after s.ledger s.log) e.position ≡ true) s.log one.0 rising.below one.1),
        subst (λ (p : Position). p.ledger ≤ 2 ^ 62) one.2 (All-contains (λ (e : Entry). e.position.ledger ≤ 2 ^ 62) s.log one.0 rising.bounded one.1),
      )

  -- a snapshot keeps it
  kept_same : (subs : List Subscription) → option_map_or (λ sub. set.contains sub.acknowledged position) (find (is_named name) (map subscription_from (map kept_of subs))) false
      ≡ option_map_or (λ sub. set.contains sub.acknowledged position) (find (is_named name) subs) false
  kept_same [] = refl
  kept_same (sub ∷ subs) = by (is_named name sub) (kept_same subs)
    where
      by : (b : Bool) → option_map_or (λ sub. set.contains sub.acknowledged position) (find (is_named name) (map subscription_from (map kept_of subs))) false ≡ option_map_or (λ sub. set.contains sub.acknowledged position) (find (is_named name) subs) false
          → option_map_or (λ (x : Subscription). set.contains x.acknowledged position) (cond b (Some (subscription_from (kept_of sub))) (find (is_named name) (map subscription_from (map kept_of subs)))) false
          ≡ option_map_or (λ (x : Subscription). set.contains x.acknowledged position) (cond b (Some sub) (find (is_named name) subs)) false
      by true rest = refl
      by false rest = rest

  abbrev StandsOrPast : State → Type 0
  StandsOrPast s = stands s ⊎ IsPast position s

  -- the deed does not seek or drop the subscription
  abbrev no_reset : Deed → Type 0
  no_reset (asked event reply) = is_reset name event reply ≡ false
  no_reset deed = Unit {0}

  does_stay : position.ledger ≤ 2 ^ 62 → (s : State) (deed : Deed) (t : State) → Does s deed t → IsReached s → no_reset deed → StandsOrPast s → StandsOrPast t
  does_stay bounded s (asked event reply) t does at unreset was = step_stays name position s event reply t does unreset (rising_reached s at) was
  does_stay bounded s goes_on t does at unreset was = elim was [
    | inl there ↦ inl (subst stands (sym does.1) (kept_same s.subscriptions ∙ there))
    | inr past ↦ inr (does_past position bounded s goes_on t does at past)
  ]
  does_stay bounded s begins_again t does at unreset was = elim was [
    | inl there ↦ inr (subst (IsPast position) (sym does.1) (past_made_again position bounded s (stood s at there).0))
    | inr past ↦ inr (does_past position bounded s begins_again t does at past)
  ]

  unsent : position.ledger ≤ 2 ^ 62 → (s : State) (deeds : List Deed) (t : State) → Lives s deeds t → IsReached s → StandsOrPast s → some_deed (is_reset name) deeds ≡ false → some_deed (is_sent_at name position) deeds ≡ false
  unsent bounded s [] t lives at was unreset = refl
  unsent bounded s (asked event reply ∷ deeds) t lives at was unreset =
      let parts = or_false (is_reset name event reply) (some_deed (is_reset name) deeds) unreset in
      both_false (is_sent_at name position event reply) (some_deed (is_sent_at name position) deeds)
      (step_sends_other name position s event reply lives.0 lives.1 was)
      (unsent bounded lives.0 deeds t lives.2 (does_reach s (asked event reply) lives.0 lives.1 at) (does_stay bounded s (asked event reply) lives.0 lives.1 at parts.0 was) parts.1)
  unsent bounded s (goes_on ∷ deeds) t lives at was unreset =
      unsent bounded lives.0 deeds t lives.2 (does_reach s goes_on lives.0 lives.1 at) (does_stay bounded s goes_on lives.0 lives.1 at tt was) unreset
  unsent bounded s (begins_again ∷ deeds) t lives at was unreset =
      unsent bounded lives.0 deeds t lives.2 (does_reach s begins_again lives.0 lives.1 at) (does_stay bounded s begins_again lives.0 lives.1 at tt was) unreset

  pub never_sent : (s : State) (deeds : List Deed) (t : State) → IsReached s → Lives s deeds t → stands s → some_deed (is_reset name) deeds ≡ false → some_deed (is_sent_at name position) deeds ≡ false
  never_sent s deeds t at lives there unreset = unsent (stood s at there).1 s deeds t lives at (inl there) unreset
