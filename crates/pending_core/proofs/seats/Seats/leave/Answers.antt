use Rattle.std.proofs.Common.{ap, ◌∙◌}
use Rattle.std.specs.BTreeSet.{contains}
use Rattle.pending_core.specs.Seats.{seat_cmp}
use Rattle.pending_core.proofs.Counting.{counted_left}
use Rattle.pending_core.proofs.seats.Seats.leave.Goals as goal

pub invariant_of-self : goal.invariant_of-self
invariant_of-self c = (c.remove.ensures.ordered, counted_left c.self.inside.seats c.remove.new.self c.self.inside.counts c.count_one_less.new.self c.args.seat c.self.invariant.1 (ap (λ seats. contains seat_cmp seats c.args.seat) c.self.view_is ∙ c.requires) c.remove.ensures.keys c.count_one_less.ensures)

pub returns : goal.returns
returns c = rw (← c.self.view_is) c.remove.ensures.updates.0
