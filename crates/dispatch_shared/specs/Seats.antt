-- Seats, as the line has them.
use Rattle.std.specs.Prelude.{ℕ}
use Rattle.dispatch_shared.specs.declared.seat.Seat.{Seat}

abbrev pub seat_pair : Seat → ℕ × ℕ
seat_pair seat = (seat.consumer, seat.level)
