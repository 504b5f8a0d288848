-- A message that went from the log is past: it does not come back.
use Rattle.std.proofs.Common.{◌≡◌, ℕ, List, [], ◌∷◌, ◌++◌, suc, zero, drop, subst₂, Bool, true, false, refl, ap, ◌∙◌, sym, subst, inl, inr, true≢false}
use Rattle.std.specs.List.{AllByRecursion, list_any}
use Rattle.position_core.specs.declared.position.Position.{Position}
use Rattle.position_core.specs.declared.message.Entry.{Entry}
use Rattle.position_core.specs.Position.{position_cmp}
use Rattle.delivery_machine.specs.State.{State}
use Rattle.delivery_machine.specs.Words.{has_position, next_position, used_after}
use Rattle.delivery_machine.specs.Acknowledging.{is_one_of}
use Rattle.delivery_machine.specs.Run.{Answers}
use Rattle.delivery_machine.specs.declared.event.Event.{Event}
use Rattle.delivery_machine.specs.declared.reply.Reply.{Reply}
use Rattle.delivery_machine.proofs.RunSteps.{split}
use Rattle.delivery_machine.proofs.Rising.{IsRising, is_below, before_next, not_below_itself, still_below, used_push, used_dropped}
use Rattle.machine_laws.proofs.Growing.{IsLogged, IsLogged.remains, IsLogged.comes, IsLogged.goes, grown_taken}
use Rattle.delivery_machine.proofs.Trimmed.{positions_gone}
use Rattle.delivery_machine.proofs.Deciding.{or_false, both_false}
use Rattle.delivery_machine.proofs.Tended.{position_is}

module _ (position : Position) where
  -- the message is not in the log, and stood before the next one
  abbrev pub IsPast : State → Type 0
  IsPast s = (list_any (has_position position) s.log ≡ false) × (is_below s.ledger (used_after s.ledger s.log) position ≡ true)

  -- it was one of the messages that went
  pub went : (n : ℕ) (log : List Entry) → AllByRecursion (λ e. is_one_of (positions_gone n log) e.position ≡ false) (drop n log) → is_one_of (positions_gone n log) position ≡ true → list_any (has_position position) (drop n log) ≡ false
  went n log others one = by (drop n log) others
    where
      apart : (e : Entry) → is_one_of (positions_gone n log) e.position ≡ false → (b : Bool) → has_position position e ≡ b → b ≡ false
      apart e none false f = refl
      apart e none true t = absurd (true≢false (sym one ∙ sym (ap (is_one_of (positions_gone n log)) (position_is e.position position t)) ∙ none))

      by : (rest : List Entry) → AllByRecursion (λ e. is_one_of (positions_gone n log) e.position ≡ false) rest → list_any (has_position position) rest ≡ false
      by [] none = refl
      by (e ∷ rest) none = both_false (has_position position e) (list_any (has_position position) rest) (apart e none.0 _ refl) (by rest none.1)

  past_as : (log log' : List Entry) (ledger ledger' : ℕ) → log' ≡ log → ledger' ≡ ledger
      → (list_any (has_position position) log ≡ false) × (is_below ledger (used_after ledger log) position ≡ true) → (list_any (has_position position) log' ≡ false) × (is_below ledger' (used_after ledger' log') position ≡ true)
  past_as log log' ledger ledger' is are past =
      subst₂ (λ (l : List Entry) (n : ℕ). (list_any (has_position position) l ≡ false) × (is_below n (used_after n l) position ≡ true)) (sym is) (sym are) past

  -- what is past stays past
  stays_past : (s t : State) → IsLogged s t → IsRising s.log s.ledger → IsPast s → IsPast t
  stays_past s t (remains log ledger) rising past = past_as s.log t.log s.ledger t.ledger log ledger past
  stays_past s t (comes e next log ledger) rising past =
      past_as (s.log ++ e ∷ []) t.log e.position.ledger t.ledger log ledger (
        none_pushed s.log (apart (has_position position e) refl) past.0,
        still_below s.ledger (used_after s.ledger s.log) s.ledger_size _ e.position position next (used_push s.ledger s.ledger_size s.log e next) past.1,
      )
    where
      apart : (b : Bool) → has_position position e ≡ b → b ≡ false
      apart false f = refl
      apart true t =
          let low = before_next s.ledger (used_after s.ledger s.log) s.ledger_size position past.1 in
          let is : next_position s ≡ position = sym next ∙ position_is e.position position t in
          absurd (not_below_itself position (ap (position_cmp position) (sym is) ∙ low))

      none_pushed : (log : List Entry) → has_position position e ≡ false → list_any (has_position position) log ≡ false → list_any (has_position position) (log ++ e ∷ []) ≡ false
      none_pushed [] last none = both_false (has_position position e) false last refl
      none_pushed (x ∷ log) last none =
          let both = or_false (has_position position x) (list_any (has_position position) log) none in
          both_false (has_position position x) (list_any (has_position position) (log ++ e ∷ [])) both.0 (none_pushed log last both.1)
  stays_past s t (goes n within log ledger) rising past =
      past_as (drop n s.log) t.log s.ledger t.ledger log ledger (
        none_dropped n s.log past.0,
        subst (λ (used : ℕ). is_below s.ledger used position ≡ true) (sym (used_dropped s.ledger n s.log within)) past.1,
      )
    where
      none_dropped : (n : ℕ) (log : List Entry) → list_any (has_position position) log ≡ false → list_any (has_position position) (drop n log) ≡ false
      none_dropped zero log none = none
      none_dropped (suc n) [] none = none
      none_dropped (suc n) (x ∷ log) none = none_dropped n log (or_false (has_position position x) (list_any (has_position position) log) none).1

  pub step_past : (s : State) (event : Event) (reply : Reply) (t : State) → Answers s event reply t → IsRising s.log s.ledger → IsPast s → IsPast t
  step_past s event reply t h rising past =
      elim (split s event reply t h) [
        | inl is ↦ subst IsPast (sym is) past
        | inr taken ↦ stays_past s t (grown_taken s event reply t taken.1).logged rising past
      ]
