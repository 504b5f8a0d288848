-- Which consumer holds which message, as the seats that are taken.
use Rattle.std.specs.Prelude.{◌≡◌, ℕ, ◌==◌, Bool, false, List, Option, Some, None, IsTrue, if◌then◌else◌}
use Rattle.std.proofs.Common.{refl}
use Rattle.std.specs.List.{count_by}
use Rattle.std.specs.Ordering.{nat_cmp, ordering_then}
use Rattle.std.specs.Coded.{Coded, code_by, coded×, coded_ℕ, coded_list}
use Rattle.std.specs.BTreeMap.{is_at}
use Rattle.std.specs.BTreeMap.Range.{IsLeBy}
use Rattle.std.specs.BTreeSet.{BTreeSet, contains}
use Rattle.std.specs.FinMap as map_of
use Rattle.std.specs.declared.cmp.Ordering.{Ordering}
use Rattle.position_core.specs.Numbers.{ConsumerNumber}
use Rattle.position_core.specs.Position.{position_cmp, coded_position}
use Rattle.position_core.specs.declared.position.Position.{Position}
use Rattle.position_core.specs.declared.held.Held.{Held}
use Rattle.delivery_machine.specs.Words.{is_held_by}
use Rattle.pending_core.specs.Counts.{number_at}
use Rattle.pending_core.specs.declared.seats.Seat.{Seat}

-- by the consumers, and by the positions at each
abbrev pub seat_cmp : Seat → Seat → Ordering
seat_cmp a b = ordering_then (nat_cmp a.consumer b.consumer) (position_cmp a.position b.position)

abbrev pub seat_of : ConsumerNumber → Position → Seat
seat_of consumer position = record { consumer = consumer; position = position }

abbrev pub coded_seat : Coded Seat
coded_seat = code_by (ℕ × Position) (coded× coded_ℕ coded_position) (λ s. (s.consumer, s.position)) (λ p. seat_of p.0 p.1) (λ _. refl)

abbrev pub coded_seats : Coded (BTreeSet Seat)
coded_seats = code_by (List Seat) (coded_list coded_seat) (λ seats. seats.keys) (λ ks. record { keys = ks }) (λ _. refl)

-- the same seats are taken, but for one, which now is or is not
abbrev pub SeatChanges : Seat → Bool → BTreeSet Seat → BTreeSet Seat → Type 0
SeatChanges seat taken old new = (other : Seat) → contains seat_cmp new other ≡ (if is_at (seat_cmp seat) other then taken else contains seat_cmp old other)

-- how many seats are the consumer's
abbrev pub seats_at : BTreeSet Seat → ConsumerNumber → ℕ
seats_at seats consumer = count_by (λ s. s.consumer == consumer) seats.keys

-- of each consumer the number of its seats is kept
abbrev pub AreCounted : BTreeSet Seat → List (ℕ × ℕ) → Type 0
AreCounted seats numbers = (consumer : ℕ) → number_at numbers consumer ≡ seats_at seats consumer

-- the first seat that is taken, or none is
abbrev pub IsFirstSeat : BTreeSet Seat → Option Seat → Type 0
IsFirstSeat seats None = (s : Seat) → contains seat_cmp seats s ≡ false
IsFirstSeat seats (Some first) = IsTrue (contains seat_cmp seats first) × ((other : Seat) → IsTrue (contains seat_cmp seats other) → IsLeBy seat_cmp first other)

-- the first that is taken, from this seat on
abbrev pub IsFirstFrom : BTreeSet Seat → Seat → Option Seat → Type 0
IsFirstFrom seats from None = (s : Seat) → IsLeBy seat_cmp from s → contains seat_cmp seats s ≡ false
IsFirstFrom seats from (Some first) = IsLeBy seat_cmp from first × IsTrue (contains seat_cmp seats first) × ((other : Seat) → IsLeBy seat_cmp from other → IsTrue (contains seat_cmp seats other) → IsLeBy seat_cmp first other)

-- the least position whose seat at the consumer is taken, or none is
abbrev pub IsFirstSeatAt : BTreeSet Seat → ConsumerNumber → Option Position → Type 0
IsFirstSeatAt seats consumer None = (position : Position) → contains seat_cmp seats (seat_of consumer position) ≡ false
IsFirstSeatAt seats consumer (Some first) =
    IsTrue (contains seat_cmp seats (seat_of consumer first))
    × ((other : Position) → IsTrue (contains seat_cmp seats (seat_of consumer other)) → IsLeBy position_cmp first other)

-- a message is pending at a consumer exactly where that seat is taken
abbrev pub AreSeatsOf : BTreeSet Seat → map_of.FinMap position_cmp Held → Type 0
AreSeatsOf seats pending = (s : Seat) → contains seat_cmp seats s ≡ is_held_by s.consumer (map_of.get pending s.position)
