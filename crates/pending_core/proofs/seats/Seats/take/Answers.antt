use Rattle.std.proofs.Common.{ap, ◌∙◌}
use Rattle.std.specs.BTreeSet.{contains}
use Rattle.pending_core.specs.Seats.{seat_cmp}
use Rattle.pending_core.proofs.Counting.{counted_taken}
use Rattle.pending_core.proofs.seats.Seats.take.Goals as goal

pub invariant_of-self-in-Ok : goal.invariant_of-self-in-Ok
invariant_of-self-in-Ok c = (c.in-Ok.ensures.ordered, counted_taken c.self.inside.seats c.insert.new.self c.self.inside.counts c.count_one_more.new.self c.args.seat c.self.invariant.1 (ap (λ seats. contains seat_cmp seats c.args.seat) c.self.view_is ∙ c.requires) c.in-Ok.ensures.keys c.in_ok-count_one_more.ensures.ok)

pub returns-in-Ok-clause-ok : goal.returns-in-Ok-clause-ok
returns-in-Ok-clause-ok c = rw (← c.self.view_is) c.in-Ok.ensures.updates.0
