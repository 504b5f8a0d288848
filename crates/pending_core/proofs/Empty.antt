-- With nothing kept, no slot and no seat all fits.
use Rattle.std.proofs.Common.{◌≡◌, ℕ, Bool, Option, Some, None, List, [], refl, sym, ap, subst, ◌∙◌}
use Rattle.std.specs.Option.{option_map_or}
use Rattle.std.specs.List.{list_any, slice_get}
use Rattle.std.specs.BTreeMap.{is_at}
use Rattle.std.specs.BTreeSet.{BTreeSet}
use Rattle.std.specs.FinMap as map_of
use Rattle.position_core.specs.Position.{position_cmp}
use Rattle.position_core.specs.declared.position.Position.{Position}
use Rattle.pending_core.specs.declared.due.Slot.{Slot}
use Rattle.delivery_machine.specs.Words.{is_held_by}
use Rattle.pending_core.specs.declared.kept.Kept.{Kept}
use Rattle.pending_core.specs.declared.seats.Seat.{Seat}
use Rattle.position_core.specs.declared.held.Held.{Held}
use Rattle.pending_core.specs.Pending.{Pending, due_again, holding, without}
use Rattle.pending_core.specs.Kept.{kept_at, pending_in, AreTied, MayCount}
use Rattle.pending_core.proofs.Found.{same_value}
use Rattle.pending_core.specs.Seats.{seat_cmp, AreSeatsOf}
use Rattle.pending_core.proofs.Tied.{nothing_is_some}

nothing_tied : AreTied [] []
nothing_tied = record {
  placed = λ p k is. absurd (nothing_is_some (kept_at [] p) k refl is);
  owned = λ i s at. absurd (nothing_is_some (slice_get [] i) s refl at);
  within = λ p k is. absurd (nothing_is_some (kept_at [] p) k refl is);
}

pub tied_empty : (es : List (Position × Kept)) (slots : List Slot) → es ≡ [] → slots ≡ [] → AreTied es slots
tied_empty es slots none no_slot = subst (λ x. AreTied x slots) (sym none) (subst (AreTied []) (sym no_slot) nothing_tied)

pub seated_empty : (seats : BTreeSet Seat) (es : List (Position × Kept)) → seats.keys ≡ [] → es ≡ [] → AreSeatsOf seats (pending_in es).pending
seated_empty seats es no_seat none s =
    ap (list_any (is_at (seat_cmp s))) no_seat
    ∙ sym (ap (is_held_by s.consumer) (map_of.get-empty position_cmp s.position))
    ∙ sym (ap (λ (x : List (Position × Kept)). is_held_by s.consumer (map_of.get (pending_in x).pending s.position)) none)

pub seated_nothing : (seats : BTreeSet Seat) (m : map_of.FinMap position_cmp Held) → seats.keys ≡ [] → m ≡ map_of.empty → AreSeatsOf seats m
seated_nothing seats m no_seat none s =
    ap (list_any (is_at (seat_cmp s))) no_seat
    ∙ sym (ap (λ (k : map_of.FinMap position_cmp Held). is_held_by s.consumer (map_of.get k s.position)) none ∙ ap (is_held_by s.consumer) (map_of.get-empty position_cmp s.position))

-- ---- whether anything is counted

pub none_counted : (is_counted : Bool) (es : List (Position × Kept)) → es ≡ [] → MayCount is_counted (pending_in es)
none_counted is_counted es none _ = ap (λ (x : List (Position × Kept)). (pending_in x).counts) none

pub none_without : (is_counted : Bool) (s : Pending) (p : Position) → MayCount is_counted s → MayCount is_counted (without p s)
none_without is_counted s p may off = ap (λ m. map_of.remove m p) (may off) ∙ same_value map_of.empty p None (map_of.get-empty position_cmp p)

pub none_due_again : (is_counted : Bool) (s : Pending) (p : Position) (due : ℕ) → MayCount is_counted s → MayCount is_counted (due_again p due s)
none_due_again is_counted s p due may off = by (map_of.get s.pending p) refl ∙ may off
  where
    by : (o : Option Held) → map_of.get s.pending p ≡ o → (due_again p due s).counts ≡ s.counts
    by None is = ap (λ o. (option_map_or (λ held. holding p (record held { due = Some due }) s) o s).counts) is
    by (Some h) is = ap (λ o. (option_map_or (λ held. holding p (record held { due = Some due }) s) o s).counts) is
