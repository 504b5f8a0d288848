-- After each change the table tells what waits, as before.
use Rattle.std.proofs.Common.{◌≡◌, ℕ, [], ◌∷◌, ◌<◌, ◌≤◌, Bool, true, false, not, length, inl, inr, refl, sym, ap, ◌∙◌, arith}
use Rattle.std.specs.Prelude.{◌==◌, ◌&&◌, ◌||◌}
use Rattle.std.specs.Ordering.{nat_cmp}
use Rattle.std.specs.Cmp.{nat_cmp_total, unsigned_tied}
use Rattle.std.specs.FinSet as set
use Rattle.std.proofs.lemmas.Bool.{cases_eq, ne_eqb, eq-eqb}
use Rattle.std.proofs.lemmas.List.{length-take, length-take-le, length-append}
use Rattle.delivery_machine.specs.State.{State, Subscription}
use Rattle.delivery_machine.specs.Words.{visible}
use Rattle.dispatch_core.specs.Log.{waits_at}
use Rattle.dispatch_core.specs.Changes.{OnlyLineChanges, OnlyChangesAt, Appended, TakenBack, Kept}
use Rattle.dispatch_core.specs.Waiting.{Waiting, Tells}

-- ---- after changes that leave the messages as they were

-- as much may be seen, or more
seen_still : (n : ℕ) (s t : State) → n ≤ length (visible s) → s.durable ≤ t.durable → length s.log ≤ length t.log → n ≤ length (visible t)
seen_still n s t seen durable longer = omega (arith, length-take s.durable s.log, length-take t.durable t.log)

module _ (w : Waiting) (s : State) (sub : Subscription) (t : State) (new : Subscription) (tells : Tells w s sub) where
  still : w.read ≤ length (visible t) → ((i : ℕ) → i < w.read → waits_at t new i ≡ waits_at s sub i) → Tells w t new
  still seen same = record {
    seen = seen;
    before = λ i before. tells.before i before ∙ sym (same i before);
    after = tells.after;
  }

  pub tells-line : OnlyLineChanges s sub t new → Tells w t new
  tells-line change =
      let log = ap length change.log.log in
      still (seen_still w.read s t tells.seen (omega (arith, change.log.durable)) (omega (arith, log))) (λ i _. (change.messages i).waits)

  pub tells-kept : Kept s sub t new → Tells w t new
  tells-kept change =
      let log = ap length change.log in
      still (seen_still w.read s t tells.seen change.durable (omega (arith, log))) (λ i _. (change.messages i).waits)

  pub tells-appended : Appended s sub t new → Tells w t new
  tells-appended change =
      let log = ap length change.log in
      let more = length-append s.log (change.message ∷ []) in
      let within = length-take s.durable s.log in
      still (seen_still w.read s t tells.seen (omega (arith, change.durable)) (omega (arith, log, more))) (λ i before. (change.others i (omega (arith, before, tells.seen, within))).waits)

  pub tells-taken_back : TakenBack s sub t new → Tells w t new
  tells-taken_back change =
      let durable : t.durable ≡ s.durable = sym change.appended.durable in
      let all : length (visible t) ≡ t.durable = length-take-le t.durable t.log change.unseen in
      let within = length-take s.durable s.log in
      let seen : w.read ≤ length (visible t) = omega (arith, all, within, durable, tells.seen) in
      still seen (λ i before. sym (change.appended.others i (omega (arith, before, seen, all, change.unseen))).waits)

-- nothing was sent
pub tells-new : (s : State) (sub : Subscription) → Tells (record { read = 0; returned = set.empty }) s sub
tells-new s sub = record {
  seen = omega arith;
  before = λ i before. absurd (omega (arith, before));
  after = λ i _. set.contains-empty nat_cmp i;
}

-- ---- after a change of one message

module _ (w : Waiting) (returned : set.FinSet nat_cmp) (index : ℕ) (s : State) (sub : Subscription) (t : State) (new : Subscription) (tells : Tells w s sub) (change : OnlyChangesAt index s sub t new) where
  changed_at : ((i : ℕ) → (i ≡ index → ⊥) → set.contains returned i ≡ set.contains w.returned i) → (index < w.read → set.contains returned index ≡ waits_at t new index) → (w.read ≤ index → set.contains returned index ≡ false) → Tells (record { read = w.read; returned = returned }) t new
  changed_at others here above =
      let log = ap length change.log.log in
      record {
        seen = seen_still w.read s t tells.seen (omega (arith, change.log.durable)) (omega (arith, log));
        before = λ i before. elim (cases_eq i index) [
          | inl is ↦ ap (set.contains returned) is ∙ here (omega (arith, before, is)) ∙ ap (waits_at t new) (sym is)
          | inr other ↦ others i other ∙ tells.before i before ∙ sym (change.others i other).waits
        ];
        after = λ i past. elim (cases_eq i index) [
          | inl is ↦ ap (set.contains returned) is ∙ above (omega (arith, past, is))
          | inr other ↦ others i other ∙ tells.after i past
        ];
      }

contains-removed : (s : set.FinSet nat_cmp) (k q : ℕ) → set.contains (set.remove s k) q ≡ (not (q == k) && set.contains s q)
contains-removed s k q = set.contains-remove nat_cmp_total s k q ∙ ap (λ (b : Bool). not b && set.contains s q) (unsigned_tied q k)

contains-inserted : (s : set.FinSet nat_cmp) (k q : ℕ) → set.contains (set.insert s k) q ≡ (q == k || set.contains s q)
contains-inserted s k q = set.contains-insert nat_cmp_total s k q ∙ ap (λ (b : Bool). b || set.contains s q) (unsigned_tied q k)

-- the message waits no more
pub tells-removed : (w : Waiting) (index : ℕ) (s : State) (sub : Subscription) (t : State) (new : Subscription) → Tells w s sub → OnlyChangesAt index s sub t new → waits_at t new index ≡ false → Tells (record { read = w.read; returned = set.remove w.returned index }) t new
tells-removed w index s sub t new tells change waits =
    let gone : set.contains (set.remove w.returned index) index ≡ false =
    contains-removed w.returned index index ∙ ap (λ (b : Bool). not b && set.contains w.returned index) (eq-eqb index index refl) in
    changed_at w (set.remove w.returned index) index s sub t new tells change
    (λ i other. contains-removed w.returned index i ∙ ap (λ (b : Bool). not b && set.contains w.returned i) (ne_eqb i index other))
    (λ _. gone ∙ sym waits)
    (λ _. gone)

-- the message, which stands before the read index, waits again
pub tells-inserted : (w : Waiting) (index : ℕ) (s : State) (sub : Subscription) (t : State) (new : Subscription) → index < w.read → Tells w s sub → OnlyChangesAt index s sub t new → waits_at t new index ≡ true → Tells (record { read = w.read; returned = set.insert w.returned index }) t new
tells-inserted w index s sub t new below tells change waits =
    changed_at w (set.insert w.returned index) index s sub t new tells change
    (λ i other. contains-inserted w.returned index i ∙ ap (λ (b : Bool). b || set.contains w.returned i) (ne_eqb i index other))
    (λ _. contains-inserted w.returned index index ∙ ap (λ (b : Bool). b || set.contains w.returned index) (eq-eqb index index refl) ∙ sym waits)
    (λ past. absurd (omega (arith, below, past)))
