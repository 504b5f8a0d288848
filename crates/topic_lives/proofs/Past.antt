-- A message of a topic stays in its log, or is past for ever: also where the topic goes on from what is stored of it, or is made again.
use Rattle.std.proofs.Common.{◌≡◌, ℕ, ◌≤◌, ◌^◌, List, [], ◌∷◌, drop, take, Contains, ◌⊎◌, Bool, true, false, refl, ap, ◌∙◌, sym, subst, subst₂, inl, inr, true≢false}
use Rattle.std.specs.List.{list_any}
use Rattle.std.proofs.lemmas.List.Elements.{All-contains, Contains-append_left}
use Rattle.position_core.specs.declared.position.Position.{Position}
use Rattle.position_core.specs.declared.message.Entry.{Entry}
use Rattle.position_core.specs.Position.{same_position}
use Rattle.delivery_machine.specs.State.{State}
use Rattle.delivery_machine.specs.Snapshot.{snapshot_of, restarted}
use Rattle.delivery_machine.specs.Words.{has_position, used_after}
use Rattle.delivery_machine.specs.Acknowledging.{is_one_of}
use Rattle.delivery_machine.specs.Laws.{IsReached}
use Rattle.delivery_machine.proofs.Firsts.{none_contained}
use Rattle.delivery_machine.proofs.Messages.{position_itself}
use Rattle.delivery_machine.proofs.Rising.{IsRising, is_below, one_of_position, used_dropped}
use Rattle.delivery_machine.proofs.RunSteps.{split}
use Rattle.delivery_machine.proofs.Trimmed.{positions_gone, others_stay, none_among, contains_stays}
use Rattle.machine_laws.proofs.Growing.{IsLogged, IsLogged.remains, IsLogged.comes, IsLogged.goes, grown_taken}
use Rattle.machine_laws.proofs.Past.{IsPast, went, step_past}
use Rattle.machine_laws.proofs.ReachedOn.{reached_step, reached_restarted, reached_sound}
use Rattle.machine_laws.proofs.WellReached.{reached_all}
use Rattle.topic_lives.specs.Deleting.{made_again}
use Rattle.topic_lives.specs.Lives.{Deed, Does, Lives}
use Rattle.topic_lives.specs.Lives.Deed.{asked, goes_on, begins_again}
use Rattle.topic_lives.proofs.MadeAgain.{later_ledger, made_again_reached}

pub rising_reached : (s : State) → IsReached s → IsRising s.log s.ledger
rising_reached s at = (reached_all at.0 at.1 at.2 s at.3 at.4).order.kept.rising

-- a run comes to each state of a life
pub does_reach : (s : State) (deed : Deed) (t : State) → Does s deed t → IsReached s → IsReached t
does_reach s (asked event reply) t does at = reached_step s event reply t does at
does_reach s goes_on t does at = subst IsReached (sym does.1) (reached_restarted (snapshot_of s) (reached_sound s at))
does_reach s begins_again t does at = subst IsReached (sym does.1) (made_again_reached s at does.0)

-- ---- what is past

module _ (position : Position) (bounded : position.ledger ≤ 2 ^ 62) where
  past_restarted : (s : State) → IsPast position s → IsPast position (restarted (snapshot_of s))
  past_restarted s past = (past.0, later_ledger s.ledger (used_after s.ledger s.log) _ position past.1 bounded)

  -- in a topic that is made again each position of the deleted one is past
  pub past_made_again : (s : State) → is_below s.ledger (used_after s.ledger s.log) position ≡ true → IsPast position (made_again s)
  past_made_again s low = (refl, later_ledger s.ledger (used_after s.ledger s.log) 0 position low bounded)

  pub does_past : (s : State) (deed : Deed) (t : State) → Does s deed t → IsReached s → IsPast position s → IsPast position t
  does_past s (asked event reply) t does at past = step_past position s event reply t does (rising_reached s at) past
  does_past s goes_on t does at past = subst (IsPast position) (sym does.1) (past_restarted s past)
  does_past s begins_again t does at past = subst (IsPast position) (sym does.1) (past_made_again s past.1)

-- ---- one message

module _ (e : Entry) where
  abbrev pub StandsOrPast : State → Type 0
  StandsOrPast s = Contains s.log e ⊎ IsPast e.position s

  below_next : (s : State) → IsRising s.log s.ledger → Contains s.log e → is_below s.ledger (used_after s.ledger s.log) e.position ≡ true
  below_next s rising at = All-contains (λ (x : Entry). is_below s.ledger (used_after s.ledger s.log) x.position ≡ true) s.log e rising.below at

  logged_past : (s t : State) → IsLogged s t → IsRising s.log s.ledger → Contains s.log e → StandsOrPast t
  logged_past s t (remains log ledger) rising at = inl (subst (λ (l : List Entry). Contains l e) (sym log) at)
  logged_past s t (comes x next log ledger) rising at = inl (subst (λ (l : List Entry). Contains l e) (sym log) (Contains-append_left s.log (x ∷ []) e at))
  logged_past s t (goes n within log ledger) rising at = by (is_one_of (positions_gone n s.log) e.position) refl
    where
      gone : is_one_of (positions_gone n s.log) e.position ≡ true → (list_any (has_position e.position) (drop n s.log) ≡ false) × (is_below s.ledger (used_after s.ledger (drop n s.log)) e.position ≡ true)
      gone one = (
        went e.position n s.log (others_stay n s.log rising.sorted) one,
        subst (λ (used : ℕ). is_below s.ledger used e.position ≡ true) (sym (used_dropped s.ledger n s.log within)) (below_next s rising at),
      )

      by : (b : Bool) → is_one_of (positions_gone n s.log) e.position ≡ b → StandsOrPast t
      by true one = inr (subst₂ (λ (l : List Entry) (k : ℕ). (list_any (has_position e.position) l ≡ false) × (is_below k (used_after k l) e.position ≡ true)) (sym log) (sym ledger) (gone one))
      by false other = inl (subst (λ (l : List Entry). Contains l e) (sym log) (contains_stays n s.log e (none_among (take n s.log) e.position other) at))

  does_stand : e.position.ledger ≤ 2 ^ 62 → (s : State) (deed : Deed) (t : State) → Does s deed t → IsReached s → Contains s.log e → StandsOrPast t
  does_stand bounded s (asked event reply) t does at there = elim (split s event reply t does) [
    | inl is ↦ inl (subst (λ (u : State). Contains u.log e) (sym is) there)
    | inr taken ↦ logged_past s t (grown_taken s event reply t taken.1).logged (rising_reached s at) there
  ]
  does_stand bounded s goes_on t does at there = inl (subst (λ (u : State). Contains u.log e) (sym does.1) there)
  does_stand bounded s begins_again t does at there = inr (subst (IsPast e.position) (sym does.1) (past_made_again e.position bounded s (below_next s (rising_reached s at) there)))

  lives_stand : e.position.ledger ≤ 2 ^ 62 → (s : State) (deeds : List Deed) (t : State) → Lives s deeds t → IsReached s → StandsOrPast s → IsReached t × StandsOrPast t
  lives_stand bounded s [] t lives at was = (subst IsReached (sym lives) at, subst StandsOrPast (sym lives) was)
  lives_stand bounded s (deed ∷ deeds) t lives at was =
      lives_stand bounded lives.0 deeds t lives.2 (does_reach s deed lives.0 lives.1 at) (elim was [
        | inl there ↦ does_stand bounded s deed lives.0 lives.1 at there
        | inr past ↦ inr (does_past e.position bounded s deed lives.0 lives.1 at past)
      ])

  -- whatever has its position is the message itself
  pub same_message : (s : State) (deeds : List Deed) (t : State) → IsReached s → Lives s deeds t → (f : Entry) → Contains s.log e → Contains t.log f → f.position ≡ e.position → f ≡ e
  same_message s deeds t at lives f there here is =
      let bounded = All-contains (λ (x : Entry). x.position.ledger ≤ 2 ^ 62) s.log e (rising_reached s at).bounded there in
      let after = lives_stand bounded s deeds t lives at (inl there) in
      elim after.1 [
        | inl stands ↦ one_of_position t.log t.ledger (rising_reached t after.0) f e here stands is
        | inr past ↦ absurd (true≢false (sym (ap (λ (p : Position). same_position p e.position) is ∙ position_itself e.position) ∙ none_contained (has_position e.position) t.log f past.0 here))
      ]
