use Rattle.std.proofs.Common.{◌∙◌, sym}
use Rattle.delivery_machine.specs.Words.{has_position}
use Rattle.topic_parts.specs.Parts.{log_of}
use Rattle.topic_served.proofs.Visible.{any_taken, none_taken, below, not_below}
use Rattle.topic_served.proofs.served.Served.visible_at.Goals as goal

pub returns-in_default-clause-seen : goal.returns-in_default-clause-seen
returns-in_default-clause-seen c =
    let t = c.args.self.now.parts in
    sym (none_taken (has_position c.args.position) t.log.durable (log_of t) (sym c.in_default.is ∙ c.index_of.ensures))

pub returns-then-index-durable-clause-seen : goal.returns-then-index-durable-clause-seen
returns-then-index-durable-clause-seen c =
    let t = c.args.self.now.parts in
    sym (any_taken (has_position c.args.position) t.log.durable (log_of t) c.in-Some.index (sym c.in-Some.ensures)
    ∙ below c.in-Some.index c.durable-durable.result t.log.durable c.durable-durable.ensures.value c.if-index-durable.true)

pub returns-else-index-durable-clause-seen : goal.returns-else-index-durable-clause-seen
returns-else-index-durable-clause-seen c =
    let t = c.args.self.now.parts in
    sym (any_taken (has_position c.args.position) t.log.durable (log_of t) c.in-Some.index (sym c.in-Some.ensures)
    ∙ not_below c.in-Some.index c.durable-durable.result t.log.durable c.durable-durable.ensures.value c.if-index-durable.false)
