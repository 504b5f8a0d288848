-- At a consumer that is pushed to, no more messages are pending than the size of its window.
use Rattle.std.proofs.Common.{◌≡◌, ℕ, ◌<◌, ◌≤◌, List, [], ◌∷◌, ◌++◌, Some, Bool, true, false, refl, ap, ◌∙◌, sym, subst, arith, inl, inr, Contains}
use Rattle.std.specs.Prelude.{◌==◌, nat_lt, drop}
use Rattle.std.specs.List.{find}
use Rattle.std.specs.FinMap as map_of
use Rattle.std.proofs.lemmas.Bool.Decides.{nat_tests}
use Rattle.std.proofs.lemmas.List.Folds.{Any-from_list_any}
use Rattle.position_core.specs.declared.message.Entry.{Entry}
use Rattle.position_core.specs.declared.held.Held.{Held}
use Rattle.position_core.specs.declared.flow.Flow.{Flow}
use Rattle.position_core.specs.declared.flow.Flow.TheVariants.{Window, Credit}
use Rattle.position_core.specs.Flow.{begun, granted, spent, flow_has_room}
use Rattle.delivery_machine.specs.State.{State, Subscription}
use Rattle.delivery_machine.specs.Words.{changed, removed, is_named, is_member, is_at, pending_at}
use Rattle.delivery_machine.specs.Delivering.{holding}
use Rattle.delivery_machine.specs.Run.{Answers}
use Rattle.delivery_machine.specs.Laws.{IsBeginning, WindowsBound}
use Rattle.delivery_machine.specs.declared.event.Event.{Event}
use Rattle.delivery_machine.specs.declared.reply.Reply.{Reply}
use Rattle.delivery_machine.proofs.RunSteps.{Run-keeps}
use Rattle.delivery_machine.proofs.Firsts.{found_passes, found_changed}
use Rattle.delivery_machine.proofs.Rising.{next_is_new}
use Rattle.delivery_machine.proofs.Tended.{is_seat, is_seated, some_is, absent}
use Rattle.delivery_machine.proofs.Tending.{names_apart}
use Rattle.delivery_machine.proofs.Kept.{IsKept}
use Rattle.machine_laws.proofs.ReachedKept.{step_keeps, beginning_kept}
use Rattle.machine_laws.proofs.Chosen.{chosen_member}
use Rattle.machine_laws.proofs.Seats.{Seat, seat_of, seats, has_number, numbers_apart, seat_contained, found_seat, found_itself, found_before, number_within}
use Rattle.delivery_machine.proofs.Deciding.{and_second, number_is, apart_below}
use Rattle.delivery_machine.proofs.Finding.{found_pushed}
use Rattle.machine_laws.proofs.Shrinking.{Shrinks}
use Rattle.machine_laws.proofs.FlowSteps.{Moves, Moves.stays, Moves.appends, Moves.joins, Moves.leaves, Moves.permits, Moves.sends, Sends, granting, spending}
use Rattle.machine_laws.proofs.FlowStepped.{moves}
use Rattle.machine_laws.proofs.Numbers.{IsNumbered, numbered, beginning_empty, beginning_numbered}
use Rattle.machine_laws.proofs.Counting.{held_at, held_idle, held_part, held_more, held_beside, held_appended, held_dropped}

-- the messages that are pending at the seat's consumer fit into its window
abbrev Fits : List Entry → List Subscription → Seat → Type 0
Fits log subs x = (size : ℕ) → x.flow ≡ Window size → (sub : Subscription) → find (is_named x.name) subs ≡ Some sub → held_at log sub.pending x.number ≤ size

abbrev AllFit : List Entry → List Subscription → List Seat → Type 0
AllFit log subs xs = (x : Seat) → find (has_number x.number) xs ≡ Some x → Fits log subs x

abbrev pub IsFitting : State → Type 0
IsFitting s = AllFit s.log s.subscriptions (seats s.members)

-- ---- where no more is pending

fits_shrunk : (log : List Entry) (before after : List Subscription) (x : Seat) → Shrinks before after → Fits log before x → Fits log after x
fits_shrunk log before after x shrinks fits size is sub found = elim (shrinks x.name sub found) [
  | inl old ↦
      let less = held_part log sub.pending old.0.pending x.number old.2 in
      let was = fits size is old.0 old.1 in
      omega arith
  | inr idle ↦ let none = held_idle log sub.pending x.number (λ p h at. absurd (idle p h at)) in omega arith
]

-- where the first messages go
fits_dropped : (n : ℕ) (log : List Entry) (subs : List Subscription) (x : Seat) → Fits log subs x → Fits (drop n log) subs x
fits_dropped n log subs x fits size is sub found =
    let was = fits size is sub found in
    let less = held_dropped n log sub.pending x.number in
    omega arith

-- ---- a message is appended

appended_fits : (s : State) (e : Entry) (x : Seat) → ((y : Entry) → Contains s.log y → y.position ≡ e.position → ⊥) → IsKept s → Fits s.log s.subscriptions x → Fits (s.log ++ e ∷ []) s.subscriptions x
appended_fits s e x new kept fits size is sub found =
    let same = held_appended s.log e sub.pending x.number (λ h at. absent s.log e.position new ((kept.tended.first x.name sub found).in_log e.position h at)) in
    let was = fits size is sub found in
    omega arith

-- ---- a consumer joins

-- nothing is pending under a number that is not given yet
none_at_next : (s : State) (name : List ℕ) (sub : Subscription) → find (is_named name) s.subscriptions ≡ Some sub → IsKept s → IsNumbered s → held_at s.log sub.pending s.next_consumer ≡ 0
none_at_next s name sub found kept rises =
    held_idle s.log sub.pending s.next_consumer (λ p h at. apart_below h.consumer s.next_consumer (seated_below h.consumer ((kept.tended.first name sub found).at_members p h at)))
  where
    seated_below : (number : ℕ) → is_seated s.members sub.name number ≡ true → number < s.next_consumer
    seated_below number any =
        let there = Any-from_list_any (is_seat sub.name number) s.members any in
        let at : Contains s.members there.1 = (there.0, there.2, there.3) in
        let low = (number_within 0 (seats s.members) s.next_consumer (seat_of there.1) rises (seat_contained s.members there.1 at)).1 in
        let is = number_is there.1.number number (and_second (is_at sub.name there.1) (is_member number there.1) there.4) in
        omega arith

joined_fits : (s : State) (after : List Subscription) (x : Seat) → x.number ≡ s.next_consumer → Shrinks s.subscriptions after → IsKept s → IsNumbered s → Fits s.log after x
joined_fits s after x numbered shrinks kept rises size is sub found = elim (shrinks x.name sub found) [
  | inl old ↦
      let less = held_part s.log sub.pending old.0.pending x.number old.2 in
      let none : held_at s.log old.0.pending x.number ≡ 0 = ap (held_at s.log old.0.pending) numbered ∙ none_at_next s x.name old.0 old.1 kept rises in
      omega arith
  | inr idle ↦ let none = held_idle s.log sub.pending x.number (λ p h at. absurd (idle p h at)) in omega arith
]

-- ---- a flow changes

granted_window : (more size : ℕ) (flow : Flow) → granted more flow ≡ Window size → flow ≡ Window size
granted_window more size (Window n) is = is
granted_window more size (Credit n) is = cc

spent_window : (size : ℕ) (flow : Flow) → spent flow ≡ Window size → flow ≡ Window size
spent_window size (Window n) is = is
spent_window size (Credit n) is = cc

-- where one seat's flow changes, and no window does
changed_fits : (log : List Entry) (after : List Subscription) (number : ℕ) (g : Seat → Seat) (xs : List Seat)
    → ((x : Seat) → (g x).number ≡ x.number) → ((x : Seat) → (g x).name ≡ x.name) → ((x : Seat) (size : ℕ) → (g x).flow ≡ Window size → x.flow ≡ Window size)
    → AllFit log after xs → AllFit log after (changed (has_number number) g xs)
changed_fits log after number g xs number_stays name_stays window_stays all x found =
    elim (found_changed (has_number x.number) (has_number number) g (λ y. ap (λ n. n == x.number) (number_stays y)) (numbers_apart x.number number) xs x found) [
      | inl other ↦ all x other.0
      | inr this ↦ of this.0 this.1 this.3
    ]
  where
    of : (y : Seat) → find (has_number x.number) xs ≡ Some y → x ≡ g y → Fits log after x
    of y there is size window sub named =
        let same : x.number ≡ y.number = ap (λ (z : Seat). z.number) is ∙ number_stays y in
        let alike : x.name ≡ y.name = ap (λ (z : Seat). z.name) is ∙ name_stays y in
        let before : y.flow ≡ Window size = window_stays y size (sym (ap (λ (z : Seat). z.flow) is) ∙ window) in
        let mine : find (has_number y.number) xs ≡ Some y = subst (λ n. find (has_number n) xs ≡ Some y) same there in
        let named_so : find (is_named y.name) after ≡ Some sub = subst (λ (n : List ℕ). find (is_named n) after ≡ Some sub) alike named in
        subst (λ n. held_at log sub.pending n ≤ size) (sym same) (all y mine size before sub named_so)

-- ---- a message is sent

module _ (s : State) (event : Event) (reply : Reply) (t : State) (m : Sends s event reply t) (kept : IsKept s) (rises : IsNumbered s) (fitting : IsFitting s) where
  abbrev held : Held
  held = record { consumer = m.m.number; due = m.due }

  abbrev after : List Subscription
  after = changed (is_named m.name) (holding m.e.position held) s.subscriptions

  mine : find (has_number m.m.number) (seats s.members) ≡ Some (seat_of m.m)
  mine = found_itself 0 (seats s.members) s.next_consumer (seat_of m.m) rises (seat_contained s.members m.m (chosen_member m.sub.kind s m.sub m.e m.m m.eligible.1).0)

  -- the member had room for it
  had_room : (size : ℕ) → m.m.flow ≡ Window size → held_at s.log m.sub.pending m.m.number < size
  had_room size is = below (held_at s.log m.sub.pending m.m.number) size (sym (ap (λ f. flow_has_room f (pending_at s m.sub m.m.number)) is) ∙ m.eligible.0)
    where
      below : (a b : ℕ) → nat_lt a b ≡ true → a < b
      below a b e = grind (arith, nat_tests)

  sent_fits : AllFit s.log after (seats s.members)
  sent_fits x found size is sub named =
      elim (found_changed (is_named x.name) (is_named m.name) (holding m.e.position held) (λ _. refl) (names_apart x.name m.name) s.subscriptions sub named) [
        | inl other ↦ fitting x found size is sub other.0
        | inr this ↦ subst (λ (z : Subscription). held_at s.log z.pending x.number ≤ size) (sym this.3) (of this.0 this.1 (some_is _ this.0 m.sub this.2 m.found) (m.m.number == x.number) refl)
      ]
    where
      of : (old : Subscription) → find (is_named x.name) s.subscriptions ≡ Some old → old ≡ m.sub → (b : Bool) → (m.m.number == x.number) ≡ b
          → held_at s.log (map_of.insert old.pending m.e.position held) x.number ≤ size
      of old there this true same =
          let number : m.m.number ≡ x.number = number_is m.m.number x.number same in
          let one : x ≡ seat_of m.m = some_is _ x (seat_of m.m) found (subst (λ n. find (has_number n) (seats s.members) ≡ Some (seat_of m.m)) number mine) in
          let window : m.m.flow ≡ Window size = sym (ap (λ (z : Seat). z.flow) one) ∙ is in
          let room = had_room size window in
          let counted : held_at s.log old.pending x.number ≡ held_at s.log m.sub.pending m.m.number =
          ap (λ (z : Subscription). held_at s.log z.pending x.number) this ∙ ap (held_at s.log m.sub.pending) (sym number) in
          let more = held_more s.log old.pending m.e.position held x.number kept.rising.sorted in
          omega arith
      of old there this false other =
          let no_more = held_beside s.log old.pending m.e.position held x.number other in
          let was = fitting x found size is old there in
          omega arith

-- ---- every step

fits_so : (log log' : List Entry) (subs subs' : List Subscription) (xs xs' : List Seat) → log' ≡ log → subs' ≡ subs → xs' ≡ xs → AllFit log subs xs → AllFit log' subs' xs'
fits_so log log' subs subs' xs xs' a b c all =
    subst (λ l. AllFit l subs' xs') (sym a) (subst (λ z. AllFit log z xs') (sym b) (subst (λ y. AllFit log subs y) (sym c) all))

fitted : (s : State) (event : Event) (reply : Reply) (t : State) → Moves s event reply t → IsKept s → IsNumbered s → IsFitting s → IsFitting t
fitted s event reply t (stays m) kept rises fitting =
    fits_so (drop m.trims s.log) t.log t.subscriptions t.subscriptions (seats s.members) (seats t.members) m.log_as refl m.members_as
    (λ x found. fits_dropped m.trims s.log t.subscriptions x (fits_shrunk s.log s.subscriptions t.subscriptions x m.shrinks (fitting x found)))
fitted s event reply t (appends m) kept rises fitting =
    fits_so (s.log ++ m.e ∷ []) t.log s.subscriptions t.subscriptions (seats s.members) (seats t.members) m.log_as m.subscriptions_as m.members_as
    (λ x found. appended_fits s m.e x (λ y at same. next_is_new s kept.rising y at (same ∙ m.next)) kept (fitting x found))
fitted s event reply t (joins m) kept rises fitting =
    let new : Seat = record { number = s.next_consumer; name = m.name; flow = begun m.flow } in
    fits_so s.log t.log t.subscriptions t.subscriptions (seats s.members ++ new ∷ []) (seats t.members) m.log_as refl m.members_as
    (λ x found. elim (found_pushed (has_number x.number) (seats s.members) new x found) [
      | inl old ↦ fits_shrunk s.log s.subscriptions t.subscriptions x m.shrinks (fitting x old)
      | inr this ↦ joined_fits s t.subscriptions x (ap (λ (z : Seat). z.number) this.0) m.shrinks kept rises
    ])
fitted s event reply t (leaves m) kept rises fitting =
    fits_so s.log t.log t.subscriptions t.subscriptions (removed (has_number m.number) (seats s.members)) (seats t.members) m.log_as refl m.members_as
    (λ x found. fits_shrunk s.log s.subscriptions t.subscriptions x m.shrinks (fitting x (found_before x.number m.number 0 (seats s.members) s.next_consumer x rises found)))
fitted s event reply t (permits m) kept rises fitting =
    fits_so s.log t.log s.subscriptions t.subscriptions (changed (has_number m.number) (granting m.permits) (seats s.members)) (seats t.members) m.log_as m.subscriptions_as m.members_as
    (changed_fits s.log s.subscriptions m.number (granting m.permits) (seats s.members) (λ _. refl) (λ _. refl) (λ x size. granted_window m.permits size x.flow) fitting)
fitted s event reply t (sends m) kept rises fitting =
    fits_so s.log t.log (after s event reply t m kept rises fitting) t.subscriptions (changed (has_number m.m.number) spending (seats s.members)) (seats t.members) m.log_as m.subscriptions_as m.members_as
    (changed_fits s.log (after s event reply t m kept rises fitting) m.m.number spending (seats s.members) (λ _. refl) (λ _. refl) (λ x size. spent_window size x.flow)
    (sent_fits s event reply t m kept rises fitting))

-- ---- every run

abbrev HoldsAt : State → Type 0
HoldsAt s = IsKept s × IsNumbered s × IsFitting s

step_holds : (s : State) (event : Event) (reply : Reply) (t : State) → Answers s event reply t → HoldsAt s → HoldsAt t
step_holds s event reply t answer holds =
    let move = moves s event reply t answer holds.0 in
    (step_keeps s event reply t answer holds.0, numbered s event reply t move holds.1, fitted s event reply t move holds.0 holds.1 holds.2)

beginning_fits : (s : State) → IsBeginning s → IsFitting s
beginning_fits s begins = subst (λ ms. AllFit s.log s.subscriptions (seats ms)) (sym (beginning_empty s begins)) (λ x found. cc)

pub windows_bound : WindowsBound
windows_bound s events replies t begins run consumer size m sub found window named =
    let holds = Run-keeps HoldsAt step_holds s events replies t run (beginning_kept s begins, beginning_numbered s begins, beginning_fits s begins) in
    let is : m.number ≡ consumer = number_is m.number consumer (found_passes (is_member consumer) t.members m found) in
    let there : find (has_number m.number) (seats t.members) ≡ Some (seat_of m) =
    subst (λ n. find (has_number n) (seats t.members) ≡ Some (seat_of m)) (sym is) (found_seat consumer t.members m found) in
    subst (λ n. held_at t.log sub.pending n ≤ size) is (holds.2 (seat_of m) there size window sub named)
