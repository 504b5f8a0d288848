-- The first of the seats is of the first pending message.
use Rattle.std.proofs.Common.{◌≡◌, ◌≢◌, ◌≤◌, ℕ, Bool, true, false, Option, Some, None, refl, sym, ap, ◌∙◌, arith}
use Rattle.std.specs.Option.{option_map}
use Rattle.std.specs.Ordering.{nat_cmp, is_gt, ordering_then}
use Rattle.std.specs.declared.cmp.Ordering.{Ordering}
use Rattle.std.specs.Cmp.{nat_cmp_total, tied_itself, nat_eq_equiv}
use Rattle.std.specs.BTreeSet.{BTreeSet, contains}
use Rattle.std.specs.FinMap as map_of
use Rattle.std.proofs.lemmas.Bool.{false≢true}
use Rattle.std.proofs.lemmas.Grind.{common_steps}
use Rattle.position_core.specs.Position.{position_cmp}
use Rattle.position_core.specs.declared.position.Position.{Position}
use Rattle.position_core.specs.declared.held.Held.{Held}
use Rattle.delivery_machine.specs.Words.{is_held_by}
use Rattle.pending_core.specs.declared.seats.Seat.{Seat}
use Rattle.pending_core.specs.Pending.{Pending, IsFirstAt, IsFirstPending}
use Rattle.pending_core.specs.Seats.{seat_cmp, seat_of, IsFirstSeat, IsFirstSeatAt, IsFirstFrom, AreSeatsOf}

in_order : (a b : ℕ) (o : Ordering) → is_gt (ordering_then (nat_cmp a b) o) ≡ false → a ≤ b
in_order a b o h = grind (arith, common_steps)

from_least : (consumer ledger entry : ℕ) → is_gt (ordering_then (nat_cmp consumer consumer) (ordering_then (nat_cmp 0 ledger) (nat_cmp 0 entry))) ≡ false
from_least consumer ledger entry = grind (arith, common_steps)

-- the first seat from the consumer's least on is another's, so the consumer has none
pub of_another : (seats : BTreeSet Seat) (consumer : ℕ) (s : Seat) → IsFirstFrom seats (seat_of consumer (record { ledger = 0; entry = 0 })) (Some s) → s.consumer ≢ consumer → (p : Position) → contains seat_cmp seats (seat_of consumer p) ≡ false
of_another seats consumer s first other p = by_test (contains seat_cmp seats (seat_of consumer p)) refl
  where
    by_test : (b : Bool) → contains seat_cmp seats (seat_of consumer p) ≡ b → b ≡ false
    by_test true e =
        let below = in_order consumer s.consumer _ first.0 in
        let above = in_order s.consumer consumer _ (first.2 (seat_of consumer p) (from_least consumer p.ledger p.entry) e) in
        absurd (other (omega arith))
    by_test false e = refl

module _ (seats : BTreeSet Seat) (s : Pending) (are : AreSeatsOf seats s.pending) where
  pub first_at_is : (consumer : ℕ) (o : Option Position) → IsFirstSeatAt seats consumer o → IsFirstAt s consumer o
  first_at_is consumer None none = λ p is. false≢true (sym (none p) ∙ are (seat_of consumer p) ∙ is)
  first_at_is consumer (Some first) h = (sym (are (seat_of consumer first)) ∙ h.0, λ other is. h.1 other (are (seat_of consumer other) ∙ is))

  pub first_is : (o : Option Seat) → IsFirstSeat seats o → IsFirstPending s (option_map (λ x. x.position) o)
  first_is None none = λ p. by_cases p (map_of.get s.pending p) refl
    where
      by_cases : (p : Position) (o : Option Held) → map_of.get s.pending p ≡ o → map_of.get s.pending p ≡ None
      by_cases p None e = e
      by_cases p (Some h) e = absurd (false≢true (sym (none (seat_of h.consumer p)) ∙ are (seat_of h.consumer p) ∙ ap (is_held_by h.consumer) e ∙ nat_eq_equiv.refl h.consumer))
  first_is (Some x) h = (
    x.consumer,
    (sym (are x) ∙ h.0, λ other is. sym (ap (λ r. is_gt (ordering_then r (position_cmp x.position other))) (tied_itself nat_cmp_total x.consumer)) ∙ h.1 (seat_of x.consumer other) (are (seat_of x.consumer other) ∙ is)),
    λ lesser lower p is.
        let after = in_order x.consumer lesser _ (h.1 (seat_of lesser p) (are (seat_of lesser p) ∙ is)) in
        omega arith,
  )
