-- Each number is given to one consumer, once.
use Rattle.std.proofs.Common.{◌≡◌, ℕ, ◌+◌, ◌<◌, List, [], ◌∷◌, Bool, true, false, refl, ap, ◌∙◌, sym, subst, subst₂, arith, inl, inr, true≢false}
use Rattle.std.specs.Prelude.{◌||◌, ◌==◌}
use Rattle.position_core.specs.declared.flow.Flow.{Flow}
use Rattle.position_core.specs.declared.flow.Flow.TheVariants.{Window, Credit}
use Rattle.delivery_machine.specs.State.{State}
use Rattle.delivery_machine.specs.Run.{Run}
use Rattle.delivery_machine.specs.Laws.{IsBeginning, some_answer, joins_to_pull}
use Rattle.delivery_machine.specs.declared.event.Event.{Event}
use Rattle.delivery_machine.specs.declared.reply.Reply.{Reply}
use Rattle.delivery_machine.proofs.Kept.{IsKept}
use Rattle.machine_laws.proofs.ReachedKept.{step_keeps}
use Rattle.machine_laws.proofs.Seats.{seats, has_number, Rises, rises_pushed, rises_removed, rises_changed}
use Rattle.delivery_machine.proofs.Deciding.{both_false, number_is, apart_above}
use Rattle.machine_laws.proofs.FlowSteps.{Moves, Moves.stays, Moves.appends, Moves.joins, Moves.leaves, Moves.permits, Moves.sends, granting, spending, pulls_if, pushes_if, joins_to_push}
use Rattle.machine_laws.proofs.FlowStepped.{moves}

-- members' numbers rise, and are below the next one
abbrev pub IsNumbered : State → Type 0
IsNumbered s = Rises 0 (seats s.members) s.next_consumer

pub beginning_empty : (s : State) → IsBeginning s → s.members ≡ []
beginning_empty s begins = elim begins [
  | inl new ↦ ap (λ (t : State). t.members) new.2
  | inr old ↦ ap (λ (t : State). t.members) old.2
]

pub beginning_numbered : (s : State) → IsBeginning s → IsNumbered s
beginning_numbered s begins = subst (λ xs. Rises 0 (seats xs) s.next_consumer) (sym (beginning_empty s begins)) (omega arith)

pub numbered : (s : State) (event : Event) (reply : Reply) (t : State) → Moves s event reply t → IsNumbered s → IsNumbered t
numbered s event reply t (stays m) rises = subst₂ (Rises 0) (sym m.members_as) (sym m.next_as) rises
numbered s event reply t (appends m) rises = subst₂ (Rises 0) (sym m.members_as) (sym m.next_as) rises
numbered s event reply t (joins m) rises = subst₂ (Rises 0) (sym m.members_as) (sym m.next_as) (rises_pushed 0 (seats s.members) s.next_consumer _ refl rises)
numbered s event reply t (leaves m) rises = subst₂ (Rises 0) (sym m.members_as) (sym m.next_as) (rises_removed (has_number m.number) 0 (seats s.members) s.next_consumer rises)
numbered s event reply t (permits m) rises =
    subst₂ (Rises 0) (sym m.members_as) (sym m.next_as) (rises_changed (has_number m.number) (granting m.permits) (λ _. refl) 0 (seats s.members) s.next_consumer rises)
numbered s event reply t (sends m) rises =
    subst₂ (Rises 0) (sym m.members_as) (sym m.next_as) (rises_changed (has_number m.m.number) spending (λ _. refl) 0 (seats s.members) s.next_consumer rises)

-- ---- one consumer joins once

none_pulls : (flow : Flow) (b : Bool) → b ≡ false → pulls_if flow b ≡ false
none_pulls (Window size) b e = refl
none_pulls (Credit left) b e = e

none_pushes : (flow : Flow) (b : Bool) → b ≡ false → pushes_if flow b ≡ false
none_pushes (Window size) b e = e
none_pushes (Credit left) b e = refl

pulls_only : (flow : Flow) (b : Bool) → pulls_if flow b ≡ true → (b ≡ true) × (pushes_if flow b ≡ false)
pulls_only (Window size) b e = absurd (true≢false (sym e))
pulls_only (Credit left) b e = (e, refl)

pushes_only : (flow : Flow) (b : Bool) → pushes_if flow b ≡ true → b ≡ true
pushes_only (Window size) b e = e
pushes_only (Credit left) b e = absurd (true≢false (sym e))

module _ (c : ℕ) where
  -- the number was given before
  abbrev IsLate : State → Type 0
  IsLate s = c < s.next_consumer

  late_next : (s t : State) → t.next_consumer ≡ s.next_consumer → IsLate s → IsLate t
  late_next s t same late = subst (λ n. c < n) (sym same) late

  late : (s : State) (event : Event) (reply : Reply) (t : State) → Moves s event reply t → IsLate s → (joins_to_pull c event reply ≡ false) × (joins_to_push c event reply ≡ false) × IsLate t
  late s event reply t (stays m) low = ((m.joins c).0, (m.joins c).1, late_next s t m.next_as low)
  late s event reply t (appends m) low = ((m.joins c).0, (m.joins c).1, late_next s t m.next_as low)
  late s event reply t (joins m) low =
      let other : (s.next_consumer == c) ≡ false = apart_above s.next_consumer c low in
      let is = m.next_as in
      (m.pulls c ∙ none_pulls m.flow (s.next_consumer == c) other, m.pushes c ∙ none_pushes m.flow (s.next_consumer == c) other, omega arith)
  late s event reply t (leaves m) low = ((m.joins c).0, (m.joins c).1, late_next s t m.next_as low)
  late s event reply t (permits m) low = ((m.joins c).0, (m.joins c).1, late_next s t m.next_as low)
  late s event reply t (sends m) low = ((m.joins c).0, (m.joins c).1, late_next s t m.next_as low)

  -- where it joins, the number is given
  given_now : (s t : State) → (s.next_consumer == c) ≡ true → t.next_consumer ≡ s.next_consumer + 1 → IsLate t
  given_now s t this is = let same = number_is s.next_consumer c this in omega arith

  pulls_now : (s : State) (event : Event) (reply : Reply) (t : State) → Moves s event reply t → joins_to_pull c event reply ≡ true → (joins_to_push c event reply ≡ false) × IsLate t
  pulls_now s event reply t (joins m) now =
      let only = pulls_only m.flow (s.next_consumer == c) (sym (m.pulls c) ∙ now) in
      (m.pushes c ∙ only.1, given_now s t only.0 m.next_as)
  pulls_now s event reply t (stays m) now = absurd (true≢false (sym now ∙ (m.joins c).0))
  pulls_now s event reply t (appends m) now = absurd (true≢false (sym now ∙ (m.joins c).0))
  pulls_now s event reply t (leaves m) now = absurd (true≢false (sym now ∙ (m.joins c).0))
  pulls_now s event reply t (permits m) now = absurd (true≢false (sym now ∙ (m.joins c).0))
  pulls_now s event reply t (sends m) now = absurd (true≢false (sym now ∙ (m.joins c).0))

  pushes_now : (s : State) (event : Event) (reply : Reply) (t : State) → Moves s event reply t → joins_to_push c event reply ≡ true → IsLate t
  pushes_now s event reply t (joins m) now = given_now s t (pushes_only m.flow (s.next_consumer == c) (sym (m.pushes c) ∙ now)) m.next_as
  pushes_now s event reply t (stays m) now = absurd (true≢false (sym now ∙ (m.joins c).1))
  pushes_now s event reply t (appends m) now = absurd (true≢false (sym now ∙ (m.joins c).1))
  pushes_now s event reply t (leaves m) now = absurd (true≢false (sym now ∙ (m.joins c).1))
  pushes_now s event reply t (permits m) now = absurd (true≢false (sym now ∙ (m.joins c).1))
  pushes_now s event reply t (sends m) now = absurd (true≢false (sym now ∙ (m.joins c).1))

  -- a number that was given is not given again
  never_again : (s : State) (events : List Event) (replies : List Reply) (t : State) → Run s events replies t → IsKept s → IsLate s
      → (some_answer (joins_to_pull c) events replies ≡ false) × (some_answer (joins_to_push c) events replies ≡ false)
  never_again s [] [] t run kept low = (refl, refl)
  never_again s (event ∷ events) (reply ∷ replies) t run kept low =
      let now = late s event reply run.0 (moves s event reply run.0 run.1 kept) low in
      let rest = never_again run.0 events replies t run.2 (step_keeps s event reply run.0 run.1 kept) now.2 in
      (both_false (joins_to_pull c event reply) (some_answer (joins_to_pull c) events replies) now.0 rest.0, both_false (joins_to_push c event reply) (some_answer (joins_to_push c) events replies) now.1 rest.1)
  never_again s [] (reply ∷ replies) t run kept low = absurd run
  never_again s (event ∷ events) [] t run kept low = absurd run

  -- what joined to pull did not join to be pushed to
  pub pulls_alone : (s : State) (events : List Event) (replies : List Reply) (t : State) → Run s events replies t → IsKept s
      → some_answer (joins_to_pull c) events replies ≡ true → some_answer (joins_to_push c) events replies ≡ false
  pulls_alone s [] [] t run kept pulls = refl
  pulls_alone s (event ∷ events) (reply ∷ replies) t run kept pulls =
      by (joins_to_pull c event reply) refl (joins_to_push c event reply) refl pulls (pulls_alone run.0 events replies t run.2 later)
    where
      later : IsKept run.0
      later = step_keeps s event reply run.0 run.1 kept

      move : Moves s event reply run.0
      move = moves s event reply run.0 run.1 kept

      by : (a : Bool) → joins_to_pull c event reply ≡ a → (b : Bool) → joins_to_push c event reply ≡ b → (a || some_answer (joins_to_pull c) events replies) ≡ true
          → (some_answer (joins_to_pull c) events replies ≡ true → some_answer (joins_to_push c) events replies ≡ false) → (b || some_answer (joins_to_push c) events replies) ≡ false
      by true now b is any rest =
          let once = pulls_now s event reply run.0 move now in
          both_false b (some_answer (joins_to_push c) events replies) (sym is ∙ once.0) (never_again run.0 events replies t run.2 later once.1).1
      by false other true now any rest = absurd (true≢false (sym any ∙ (never_again run.0 events replies t run.2 later (pushes_now s event reply run.0 move now)).0))
      by false other false none any rest = rest any
  pulls_alone s [] (reply ∷ replies) t run kept pulls = absurd run
  pulls_alone s (event ∷ events) [] t run kept pulls = absurd run
