-- A seat that is free again, and what a topic keeps under its lock: its name, and what it goes on from.
use Rattle.std.proofs.Common.{◌≡◌, ◌+◌, ◌-◌, ◌<◌, ◌≤◌, ◌==◌, ℕ, nat_lt, Bool, true, false, List, set, length, length-set, Option, Some, Result, Ok, Err, IfOk, OnErr, OnOk, IsTrue, IsFalse, if◌then◌else◌, ◌||◌, refl, sym, ap, subst, ◌∙◌, inl, inr, arith}
use Rattle.std.proofs.lemmas.List.{set-set, set-get_or, get_or-set_same}
use Rattle.std.proofs.lemmas.Option.{get_or_from_slice_get, slice_get-get_or}
use Rattle.std.proofs.lemmas.Bool.Decides.{nat_tests}
use Rattle.std.specs.Prelude.{slice_get}
use Rattle.position_core.specs.declared.fault.Fault.{Fault}
use Rattle.position_core.specs.declared.topic_name.TopicName.{TopicName}
use Rattle.delivery_machine.specs.State.{State}
use Rattle.delivery_machine.specs.declared.event.Event.{Event}
use Rattle.delivery_machine.specs.declared.event.Event.TheVariants.{Stored, StoredTo}
use Rattle.delivery_machine.specs.declared.reply.Reply.{Reply}
use Rattle.delivery_machine.specs.declared.reply.Reply.TheVariants.{Durable}
use Rattle.delivery_machine.specs.Run.{Step}
use Rattle.delivery_machine.specs.Journals.{is_storing}
use Rattle.machine_laws.proofs.Growing.{step_grows}
use Rattle.topic_shared.specs.Seats.{IsFree, without_seat}
use Rattle.topic_shared.specs.Kept.{Kept, StoresLine, with_promise}
use Rattle.stored_cell.specs.Held.{Held, SameButPromise}
use Rattle.stored_cell.specs.Noted.{Noted}
use Rattle.row_store.specs.Opened.{has_origin}
use Rattle.broker_dir.specs.Handing.{Confirms, HandsOn}

set_as : {X : Type 0} (xs : List X) (i : ℕ) (x : X) → slice_get xs i ≡ Some x → set xs i x ≡ xs
set_as xs i x is = ap (set xs i) (sym (get_or_from_slice_get xs i x x is)) ∙ set-get_or xs i x

not_zero : (n : ℕ) → 0 < n → (n == 0) ≡ false
not_zero n above = grind (arith, nat_tests)

-- a seat that was free is free again once it was taken and left
pub left_again : (taken : List Bool) (seat : ℕ) → IsFree taken seat → without_seat (set taken (seat - 1) true) seat ≡ taken
left_again taken seat free =
    subst (λ b. (if b then set taken (seat - 1) true else set (set taken (seat - 1) true) (seat - 1) false) ≡ taken) (sym (not_zero seat free.0))
    (set-set taken (seat - 1) true false ∙ set_as taken (seat - 1) false free.1)

-- a seat that was left is free
pub left_free : (taken : List Bool) (seat : ℕ) → 0 < seat → seat ≤ length taken → IsFree (without_seat taken seat) seat
left_free taken seat above within =
    subst (λ b. IsFree (if b then taken else set taken (seat - 1) false) seat) (sym (not_zero seat above)) (
      above,
      slice_get-get_or (set taken (seat - 1) false) (seat - 1) false (omega (arith, above, within, length-set taken (seat - 1) false))
          ∙ ap Some (get_or-set_same taken (seat - 1) false false (omega (arith, above, within))),
    )

-- a step leaves the name
pub step_named : (s : State) (e : Event) (r : Reply) (t : State) → Step s e r t → t.name ≡ s.name
step_named s e r t step = (step_grows s e r t step).name

pub handed_named : (s : State) (e : Event) (r : Result Reply Fault) (t : State) → HandsOn s e r t → t.name ≡ s.name
handed_named s e (Ok reply) t step = step_named s e reply t step
handed_named s e (Err fault) t same = ap (λ (u : State). u.name) same

-- what is durable by a word stays so over an event that calls nothing durable
pub called_word : {V : Type 0} (r : Result V Fault) (old new : Held) (e : Event) → IfOk r (λ _. new.by_word ≡ (old.by_word || is_storing e)) → OnErr r (new ≡ old)
    → old.by_word ≡ false → is_storing e ≡ false → new.by_word ≡ false
called_word (Ok v) old new e word err was none = word ∙ (ap (λ b. b || is_storing e) was ∙ none)
called_word (Err fault) old new e word err was none = ap (λ (h : Held). h.by_word) err ∙ was

-- a call leaves the name
pub called_named : {V : Type 0} (r : Result V Fault) (reply : V → Reply) (old new : Held) (e : Event) → IfOk r (λ v. Step old.cell.state e (reply v) new.cell.state) → OnErr r (new ≡ old)
    → new.cell.state.name ≡ old.cell.state.name
called_named (Ok v) reply old new e step err = step_named old.cell.state e (reply v) new.cell.state step
called_named (Err fault) reply old new e step err = ap (λ (h : Held). h.cell.state.name) err

-- what is stored is an origin
pub stored_origin : (rows kept : Noted) (name : TopicName) → has_origin rows (Some kept) name ≡ true
unfolding has_origin
stored_origin rows kept name = refl

-- ---- what is stored is confirmed

-- a confirmation leaves the name
pub confirmed_named : (done : Bool) (old new : Held) (kept : Noted) → (IsFalse done → new ≡ old)
    → (IsTrue done → (count : ℕ) × StoresLine old.cell (StoredTo (kept.kept.gone + length kept.kept.log) kept.kept.next_ordinal) count new.cell) → new.cell.state.name ≡ old.cell.state.name
confirmed_named true old new kept nothing line =
    let stored = line refl in step_named old.cell.state (StoredTo (kept.kept.gone + length kept.kept.log) kept.kept.next_ordinal) (Durable stored.0) new.cell.state stored.1.step
confirmed_named false old new kept nothing line = ap (λ (h : Held). h.cell.state.name) (nothing refl)

-- what a confirmation does to the topic
pub confirmed_state : (done : Bool) (old new : Held) (kept : Noted) → (IsFalse done → new ≡ old)
    → (IsTrue done → (count : ℕ) × StoresLine old.cell (StoredTo (kept.kept.gone + length kept.kept.log) kept.kept.next_ordinal) count new.cell) → Confirms kept old.cell.state new.cell.state
confirmed_state true old new kept nothing line = let stored = line refl in inr (stored.0, stored.1.step)
confirmed_state false old new kept nothing line = inl (ap (λ (h : Held). h.cell.state) (nothing refl))

pub confirmed_origin : {X : Type 0} (done : Bool) (old new : Held) (rows kept : Noted) (name : TopicName) → (IsFalse done → new ≡ old)
    → (IsTrue done → (new.stored ≡ Some kept) × X) → has_origin rows old.stored name ≡ true → has_origin rows new.stored name ≡ true
confirmed_origin true old new rows kept name nothing stored was =
    subst (λ (o : Option Noted). has_origin rows o name ≡ true) (sym (stored refl).0) (stored_origin rows kept name)
confirmed_origin false old new rows kept name nothing stored was = subst (λ (h : Held). has_origin rows h.stored name ≡ true) (sym (nothing refl)) was

-- a line that is kept changes no state
promised_state : (k : Kept) → (with_promise k).state ≡ k.state
promised_state k = by k.promised (nat_lt _ k.limit)
  where
    by : (promised room : Bool) → (if promised then k else if room then record k { promised = true } else record k { own_line = false; promised = true }).state ≡ k.state
    by true room = refl
    by false true = refl
    by false false = refl

-- a round leaves the name, makes nothing durable by a word, and what it stored is an origin
pub round_named : {E : Type 0} (r : Result ℕ E) (old new : Held)
    → IfOk r (λ count. StoresLine (record (with_promise old.cell) { viewed = old.cell.state; unsaved = false }) Stored count new.cell) → OnErr r (SameButPromise old new)
    → new.cell.state.name ≡ old.cell.state.name
round_named (Ok count) old new line same =
    step_named (with_promise old.cell).state Stored (Durable count) new.cell.state line.step ∙ ap (λ (s : State). s.name) (promised_state old.cell)
round_named (Err fault) old new line same = ap (λ (h : Held). h.cell.state.name) same

pub round_word : {V E : Type 0} (X Y : Noted → Type 0) (r : Result V E) (old new : Held)
    → OnOk r ((n : Noted) × (new.stored ≡ Some n) × X n × Y n × (new.by_word ≡ false)) → OnErr r (SameButPromise old new) → old.by_word ≡ false → new.by_word ≡ false
round_word X Y (Ok v) old new stored same was = stored.4
round_word X Y (Err fault) old new stored same was = ap (λ (h : Held). h.by_word) same ∙ was

pub round_origin : {V E : Type 0} (X Y Z : Noted → Type 0) (r : Result V E) (old new : Held) (rows : Noted) (name : TopicName)
    → OnOk r ((n : Noted) × (new.stored ≡ Some n) × X n × Y n × Z n) → OnErr r (SameButPromise old new) → has_origin rows old.stored name ≡ true → has_origin rows new.stored name ≡ true
round_origin X Y Z (Ok v) old new rows name stored same was =
    subst (λ (o : Option Noted). has_origin rows o name ≡ true) (sym stored.1) (stored_origin rows stored.0 name)
round_origin X Y Z (Err fault) old new rows name stored same was = subst (λ (h : Held). has_origin rows h.stored name ≡ true) (sym same) was
