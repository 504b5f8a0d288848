use Rattle.std.proofs.Common.{ap, ◌∙◌, sym}
use Rattle.pending_core.proofs.Numbering.{number_of_pair}
use Rattle.pending_core.proofs.counts.Counts.number_near.Goals as goal

pub returns-then-pair-consumer : goal.returns-then-pair-consumer
returns-then-pair-consumer c =
    let at = c.in-Some.ensures.lookup.3 in
    rw (← c.self.view_is, ← c.deref.ensures.value)
    (number_of_pair _ (rw c.deref.ensures.value c.self.invariant) c.args.consumer c.args.place (record { within = at.0; same = ap (λ x. x.0) (sym (at.1 (0, 0))) ∙ c.if-pair-consumer.true }) c.in-Some.pair.now (at.1 (0, 0)))
