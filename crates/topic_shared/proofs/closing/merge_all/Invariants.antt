use Rattle.std.proofs.Common.{◌≡◌, ◌+◌, length}
use Rattle.topic_shared.specs.Accounts.{calls_of}
use Rattle.topic_shared.proofs.closing.merge_all.Given as goal

abbrev pub invariant-loop-seat : goal.invariant-loop-seat
invariant-loop-seat g l = (l.pool.parts + length l.seats.items ≡ l.fn.pool.parts + length l.fn.seats.items) × (l.pool.amount + calls_of l.seats.items ≡ l.fn.pool.amount + calls_of l.fn.seats.items)

abbrev pub decreases-loop-seat : goal.decreases-loop-seat
decreases-loop-seat g l = length l.seats.items
