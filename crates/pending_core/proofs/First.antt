-- The first of the slots that are due is the first of the pending messages.
use Rattle.std.proofs.Common.{◌≡◌, ℕ, List, Option, Some, None, refl, sym, ap, ◌∙◌}
use Rattle.std.specs.List.{slice_get}
use Rattle.std.specs.Option.{option_map, option_and_then}
use Rattle.std.proofs.lemmas.Option.{same_Some}
use Rattle.position_core.specs.declared.position.Position.{Position}
use Rattle.position_core.specs.declared.held.Held.{Held}
use Rattle.pending_core.specs.declared.due.Due.{Due}
use Rattle.pending_core.specs.declared.due.Slot.{Slot}
use Rattle.pending_core.specs.Due.{due_of, due_at, IsFirst}
use Rattle.pending_core.specs.declared.kept.Kept.{Kept}
use Rattle.pending_core.specs.Pending.{IsDue, IsFirstDue}
use Rattle.pending_core.specs.Kept.{kept_at, pending_in, slot_of, AreTied}
use Rattle.pending_core.proofs.Found.{pending_at}
use Rattle.pending_core.proofs.Tied.{nothing_is_some}

module _ (es : List (Position × Kept)) (slots : List Slot) (tied : AreTied es slots) where
  -- what is due has a slot that is due
  slot_due : (d : Due) (k : Kept) → kept_at es d.position ≡ Some k → option_and_then (λ held. held.due) k.held ≡ Some d.moment → due_at slots k.slot ≡ Some d
  slot_due d k was is =
      ap (option_and_then due_of) (tied.placed d.position k was)
      ∙ ap (option_map (λ (m : ℕ). let d' : Due = record { moment = m; position = d.position } in d')) is

  in_slots : (d : Due) → IsDue (pending_in es) d → (i : ℕ) × (due_at slots i ≡ Some d)
  in_slots d is = by_cases (kept_at es d.position) refl
    where
      is_kept : option_and_then (λ (held : Held). held.due) (option_and_then (λ (kept : Kept). kept.held) (kept_at es d.position)) ≡ Some d.moment
      is_kept = ap (option_and_then (λ (held : Held). held.due)) (sym (pending_at es d.position)) ∙ is

      by_cases : (o : Option Kept) → kept_at es d.position ≡ o → (i : ℕ) × (due_at slots i ≡ Some d)
      by_cases None e = absurd (nothing_is_some _ d.moment (ap (λ (o : Option Kept). option_and_then (λ (held : Held). held.due) (option_and_then (λ (kept : Kept). kept.held) o)) e) is_kept)
      by_cases (Some k) e = (k.slot, slot_due d k e (sym (ap (λ (o : Option Kept). option_and_then (λ (held : Held). held.due) (option_and_then (λ (kept : Kept). kept.held) o)) e) ∙ is_kept))

  -- and what a slot has is due
  from_slots : (i : ℕ) (d : Due) → due_at slots i ≡ Some d → IsDue (pending_in es) d
  from_slots i d is = by_slot (slice_get slots i) refl
    where
      by_moment : (s : Slot) (m : Option ℕ) → s.due ≡ m → due_of s ≡ Some d → (s.position ≡ d.position) × (s.due ≡ Some d.moment)
      by_moment s None e h = absurd (nothing_is_some (due_of s) d (ap (option_map (λ (m : ℕ). let d' : Due = record { moment = m; position = s.position } in d')) e) h)
      by_moment s (Some m) e h =
          let same : record { moment = m; position = s.position } ≡ d = same_Some (record { moment = m; position = s.position }) d (sym (ap (option_map (λ (m : ℕ). let d' : Due = record { moment = m; position = s.position } in d')) e) ∙ h) in
          (ap (λ (x : Due). x.position) same, e ∙ ap (λ (x : Due). Some x.moment) same)

      by_kept : (s : Slot) → slice_get slots i ≡ Some s → (o : Option Kept) → kept_at es s.position ≡ o → option_and_then (λ (held : Held). held.due) (option_and_then (λ (kept : Kept). kept.held) (kept_at es s.position)) ≡ s.due
      by_kept s at None e = absurd (nothing_is_some (option_map (λ kept. kept.slot) (kept_at es s.position)) i (ap (option_map (λ kept. kept.slot)) e) (tied.owned i s at))
      by_kept s at (Some k) e =
          let here : k.slot ≡ i = same_Some k.slot i (ap (option_map (λ kept. kept.slot)) (sym e) ∙ tied.owned i s at) in
          let same : s ≡ slot_of s.position k = same_Some s (slot_of s.position k) (sym at ∙ ap (slice_get slots) (sym here) ∙ tied.placed s.position k e) in
          ap (λ (o : Option Kept). option_and_then (λ (held : Held). held.due) (option_and_then (λ (kept : Kept). kept.held) o)) e ∙ sym (ap (λ (x : Slot). x.due) same)

      by_slot : (o : Option Slot) → slice_get slots i ≡ o → IsDue (pending_in es) d
      by_slot None e = absurd (nothing_is_some (due_at slots i) d (ap (option_and_then due_of) e) is)
      by_slot (Some s) e =
          let parts = by_moment s s.due refl (sym (ap (option_and_then due_of) e) ∙ is) in
          ap (option_and_then (λ (held : Held). held.due)) (pending_at es d.position)
          ∙ ap (λ p. option_and_then (λ (held : Held). held.due) (option_and_then (λ (kept : Kept). kept.held) (kept_at es p))) (sym parts.0)
          ∙ by_kept s e (kept_at es s.position) refl ∙ parts.1

  pub first_of_pending : (o : Option Due) → IsFirst (due_at slots) o → IsFirstDue (pending_in es) o
  first_of_pending None h = λ d is. let at = in_slots d is in nothing_is_some (due_at slots at.0) d (h at.0) at.1
  first_of_pending (Some first) h = (from_slots h.0.0 first h.0.1, λ other is. let at = in_slots other is in h.1 at.0 other at.1)
