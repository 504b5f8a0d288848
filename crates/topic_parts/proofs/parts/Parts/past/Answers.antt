use Rattle.std.proofs.Common.{sym, ◌∙◌}
use Rattle.std.specs.Prelude.{nat_le}
use Rattle.position_core.specs.declared.message.Entry.{Entry}
use Rattle.topic_parts.specs.Parts.{log_of}
use Rattle.topic_parts.proofs.Gone.{walked_all, walked_to}
use Rattle.topic_parts.proofs.parts.Parts.past.Goals as goal

pub returns-else-is_past : goal.returns-else-is_past
returns-else-is_past c =
    walked_to (λ (e : Entry). nat_le e.time c.args.before) (log_of c.args.self.now) c.args.most c.each.past c.each-test.true c.requires c.each.invariant.passed
    (λ e at. sym (c.is_past.ensures e at) ∙ c.if-is_past.false)

pub returns-after-each : goal.returns-after-each
returns-after-each c =
    walked_all (λ (e : Entry). nat_le e.time c.args.before) (log_of c.args.self.now) c.args.most c.each.past c.each.invariant.within c.each-test.false c.requires c.each.invariant.passed
