use Rattle.pending_core.proofs.FirstSeats.{of_another}
use Rattle.pending_core.proofs.seats.Seats.first_at.Goals as goal

pub returns-else-seat-consumer : goal.returns-else-seat-consumer
returns-else-seat-consumer c = of_another c.args.self.now c.args.consumer c.in-Some.seat (rw (← c.self.view_is) c.in-Some.ensures) c.if-seat-consumer.false
