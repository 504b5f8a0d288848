-- What a consumer that pulls is sent is bounded by its credit, and by what it is permitted.
use Rattle.std.proofs.Common.{◌≡◌, ℕ, ◌+◌, ◌-◌, ◌<◌, ◌≤◌, List, [], ◌∷◌, Some, Bool, true, false, cond, refl, ap, ◌∙◌, sym, subst, arith, inl, inr, true≢false}
use Rattle.std.specs.Prelude.{◌==◌, nat_lt}
use Rattle.std.specs.List.{find}
use Rattle.std.proofs.lemmas.Bool.Decides.{nat_tests}
use Rattle.position_core.specs.declared.flow.Flow.{Flow}
use Rattle.position_core.specs.declared.flow.Flow.TheVariants.{Window, Credit}
use Rattle.position_core.specs.Flow.{begun, granted, spent, flow_has_room}
use Rattle.delivery_machine.specs.State.{State}
use Rattle.delivery_machine.specs.Words.{changed, pending_at}
use Rattle.delivery_machine.specs.Run.{Run}
use Rattle.delivery_machine.specs.Laws.{PermitsBound, some_answer, sum_of_answers, sent_to, permitted_to}
use Rattle.delivery_machine.specs.declared.event.Event.{Event}
use Rattle.delivery_machine.specs.declared.reply.Reply.{Reply}
use Rattle.delivery_machine.proofs.Firsts.{found_passes, found_changed}
use Rattle.delivery_machine.proofs.Kept.{IsKept}
use Rattle.machine_laws.proofs.ReachedKept.{step_keeps, beginning_kept}
use Rattle.machine_laws.proofs.Chosen.{chosen_member}
use Rattle.machine_laws.proofs.Seats.{Seat, seat_of, seats, has_number, numbers_apart, seat_contained, found_itself, found_before}
use Rattle.delivery_machine.proofs.Deciding.{or_false, number_is}
use Rattle.delivery_machine.proofs.Finding.{found_pushed}
use Rattle.machine_laws.proofs.FlowSteps.{Moves, Moves.stays, Moves.appends, Moves.joins, Moves.leaves, Moves.permits, Moves.sends, Joins, Permits, Sends, granting, spending, pushes_if, joins_to_push}
use Rattle.machine_laws.proofs.FlowStepped.{moves}
use Rattle.machine_laws.proofs.Numbers.{IsNumbered, numbered, beginning_empty, beginning_numbered, pulls_alone}

module _ (c : ℕ) where
  -- if the consumer is there, it pulls, and has at most so much credit
  abbrev HasAtMost : ℕ → List Seat → Type 0
  HasAtMost k xs = (x : Seat) → find (has_number c) xs ≡ Some x → (left : ℕ) × (x.flow ≡ Credit left) × (left ≤ k)

  -- what is sent, and left after it, is within the credit before and what is permitted
  abbrev IsWithin : ℕ → Event → Reply → State → Type 0
  IsWithin k event reply t = (after : ℕ) × HasAtMost after (seats t.members) × (sent_to c event reply + after ≤ k + permitted_to c event reply)

  unsent : (k : ℕ) (event : Event) (reply : Reply) (t : State) (xs : List Seat) → sent_to c event reply ≡ 0 → seats t.members ≡ xs → HasAtMost k xs → IsWithin k event reply t
  unsent k event reply t xs none same has = (k, subst (HasAtMost k) (sym same) has, omega arith)

  begins_pulling : (flow : Flow) (b : Bool) → pushes_if flow b ≡ false → b ≡ true → begun flow ≡ Credit 0
  begins_pulling (Window size) b e t = absurd (true≢false (sym t ∙ e))
  begins_pulling (Credit left) b e t = refl

  joined_within : (k : ℕ) (s : State) (event : Event) (reply : Reply) (t : State) → Joins s event reply t → joins_to_push c event reply ≡ false → HasAtMost k (seats s.members) → IsWithin k event reply t
  joined_within k s event reply t m unpushed has =
      unsent k event reply t _ (m.sends c) m.members_as (λ x found. elim (found_pushed (has_number c) (seats s.members) new x found) [
        | inl old ↦ has x old
        | inr this ↦ (0, ap (λ (y : Seat). y.flow) this.0 ∙ begins_pulling m.flow (s.next_consumer == c) (sym (m.pushes c) ∙ unpushed) this.1, omega arith)
      ])
    where
      new : Seat
      new = record { number = s.next_consumer; name = m.name; flow = begun m.flow }

  permitted_within : (k : ℕ) (s : State) (event : Event) (reply : Reply) (t : State) → Permits s event reply t → HasAtMost k (seats s.members) → IsWithin k event reply t
  permitted_within k s event reply t m has =
      let none = m.sends c in
      (k + permitted_to c event reply, subst (HasAtMost (k + permitted_to c event reply)) (sym m.members_as) more, omega arith)
    where
      more : HasAtMost (k + permitted_to c event reply) (changed (has_number m.number) (granting m.permits) (seats s.members))
      more x found = elim (found_changed (has_number c) (has_number m.number) (granting m.permits) (λ _. refl) (numbers_apart c m.number) (seats s.members) x found) [
        | inl other ↦ let had = has x other.0 in let low = had.2 in (had.0, had.1, omega arith)
        | inr this ↦
            let had = has this.0 this.1 in
            let low = had.2 in
            let one : this.0.number ≡ c = number_is this.0.number c (found_passes (has_number c) (seats s.members) this.0 this.1) in
            let tested : (m.number == c) ≡ true = same_test m.number c this.0.number (found_passes (has_number m.number) (seats s.members) this.0 this.2) one in
            let gets : permitted_to c event reply ≡ m.permits = m.permitted_as c ∙ ap (λ b. cond b m.permits 0) tested in
            (had.0 + m.permits, ap (λ (y : Seat). y.flow) this.3 ∙ ap (granted m.permits) had.1, omega arith)
      ]
        where
          same_test : (a b n : ℕ) → (n == a) ≡ true → n ≡ b → (a == b) ≡ true
          same_test a b n e f = grind (arith, nat_tests)

  some_left : (flow : Flow) (held left : ℕ) → flow_has_room flow held ≡ true → flow ≡ Credit left → 0 < left
  some_left flow held left room is = positive left (ap (λ f. flow_has_room f held) (sym is) ∙ room)
    where
      positive : (n : ℕ) → nat_lt 0 n ≡ true → 0 < n
      positive n e = grind (arith, nat_tests)

  sent_within : (k : ℕ) (s : State) (event : Event) (reply : Reply) (t : State) → Sends s event reply t → IsNumbered s → HasAtMost k (seats s.members) → IsWithin k event reply t
  sent_within k s event reply t m rises has = by (m.m.number == c) refl
    where
      there : find (has_number m.m.number) (seats s.members) ≡ Some (seat_of m.m)
      there = found_itself 0 (seats s.members) s.next_consumer (seat_of m.m) rises (seat_contained s.members m.m (chosen_member m.sub.kind s m.sub m.e m.m m.eligible.1).0)

      less : (after : ℕ) → k ≤ after + 1 → ((m.m.number == c) ≡ false → k ≤ after) → HasAtMost after (changed (has_number m.m.number) spending (seats s.members))
      less after low same x found = elim (found_changed (has_number c) (has_number m.m.number) spending (λ _. refl) (numbers_apart c m.m.number) (seats s.members) x found) [
        | inl other ↦
            let had = has x other.0 in
            let below = had.2 in
            let is : x.number ≡ c = number_is x.number c (found_passes (has_number c) (seats s.members) x other.0) in
            let apart : (m.m.number == c) ≡ false = differs m.m.number c x.number other.1 is in
            let rest = same apart in
            (had.0, had.1, omega arith)
        | inr this ↦
            let had = has this.0 this.1 in
            let below = had.2 in
            (had.0 - 1, ap (λ (y : Seat). y.flow) this.3 ∙ ap spent had.1, omega arith)
      ]
        where
          differs : (a b n : ℕ) → (n == a) ≡ false → n ≡ b → (a == b) ≡ false
          differs a b n e f = grind (arith, nat_tests)

      by : (b : Bool) → (m.m.number == c) ≡ b → IsWithin k event reply t
      by true this =
          let mine : find (has_number c) (seats s.members) ≡ Some (seat_of m.m) = subst (λ n. find (has_number n) (seats s.members) ≡ Some (seat_of m.m)) (number_is m.m.number c this) there in
          let had = has (seat_of m.m) mine in
          let some : 0 < had.0 = some_left m.m.flow (pending_at s m.sub m.m.number) had.0 m.eligible.0 had.1 in
          let low = had.2 in
          let one : sent_to c event reply ≡ 1 = m.sent_as c ∙ ap (λ b. cond {A = ℕ} b 1 0) this in
          (k - 1, subst (HasAtMost (k - 1)) (sym m.members_as) (less (k - 1) (omega arith) (λ f. absurd (true≢false (sym this ∙ f)))), omega arith)
      by false other =
          let none : sent_to c event reply ≡ 0 = m.sent_as c ∙ ap (λ b. cond {A = ℕ} b 1 0) other in
          unsent k event reply t _ none m.members_as (less k (omega arith) (λ _. omega arith))

  step_within : (k : ℕ) (s : State) (event : Event) (reply : Reply) (t : State) → Moves s event reply t → IsNumbered s → joins_to_push c event reply ≡ false → HasAtMost k (seats s.members) → IsWithin k event reply t
  step_within k s event reply t (stays m) rises unpushed has = unsent k event reply t _ (m.sends c) m.members_as has
  step_within k s event reply t (appends m) rises unpushed has = unsent k event reply t _ (m.sends c) m.members_as has
  step_within k s event reply t (joins m) rises unpushed has = joined_within k s event reply t m unpushed has
  step_within k s event reply t (leaves m) rises unpushed has =
      unsent k event reply t _ (m.sends c) m.members_as (λ x found. has x (found_before c m.number 0 (seats s.members) s.next_consumer x rises found))
  step_within k s event reply t (permits m) rises unpushed has = permitted_within k s event reply t m has
  step_within k s event reply t (sends m) rises unpushed has = sent_within k s event reply t m rises has

  run_within : (k : ℕ) (s : State) (events : List Event) (replies : List Reply) (t : State) → Run s events replies t → IsKept s → IsNumbered s
      → some_answer (joins_to_push c) events replies ≡ false → HasAtMost k (seats s.members)
      → sum_of_answers (sent_to c) events replies ≤ k + sum_of_answers (permitted_to c) events replies
  run_within k s [] [] t run kept rises unpushed has = omega arith
  run_within k s (event ∷ events) (reply ∷ replies) t run kept rises unpushed has =
      let move = moves s event reply run.0 run.1 kept in
      let parts = or_false (joins_to_push c event reply) (some_answer (joins_to_push c) events replies) unpushed in
      let now = step_within k s event reply run.0 move rises parts.0 has in
      let later = run_within now.0 run.0 events replies t run.2 (step_keeps s event reply run.0 run.1 kept) (numbered s event reply run.0 move rises) parts.1 now.1 in
      let low = now.2 in
      omega arith
  run_within k s [] (reply ∷ replies) t run kept rises unpushed has = absurd run
  run_within k s (event ∷ events) [] t run kept rises unpushed has = absurd run

pub permits_bound : PermitsBound
permits_bound s events replies t begins run c pulls =
    let kept = beginning_kept s begins in
    let bound = run_within c 0 s events replies t run kept (beginning_numbered s begins) (pulls_alone c s events replies t run kept pulls)
    (subst (λ xs. HasAtMost c 0 (seats xs)) (sym (beginning_empty s begins)) (λ x found. cc)) in
    omega arith
