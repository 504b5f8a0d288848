use Rattle.std.proofs.Common.{Bool, sym, ap, ◌∙◌, drop, map}
use Rattle.std.specs.Prelude.{◌||◌}
use Rattle.std.specs.List.{list_any}
use Rattle.delivery_machine.specs.Words.{is_by, signed}
use Rattle.topic_log.proofs.topic_log.TopicLog.is_lasting.Goals as goal

pub returns-then-is_at_work : goal.returns-then-is_at_work
returns-then-is_at_work c s =
    c.if-is_at_work.true
    ∙ ap (λ (b : Bool). b || list_any (is_by c.args.name.now) (map signed (drop c.args.count c.args.self.now.log.log))) (sym c.if-is_at_work.true ∙ c.is_at_work.ensures s)

pub returns-else-is_at_work : goal.returns-else-is_at_work
returns-else-is_at_work c s =
    c.stays.ensures
    ∙ ap (λ (b : Bool). b || list_any (is_by c.args.name.now) (map signed (drop c.args.count c.args.self.now.log.log))) (sym c.if-is_at_work.false ∙ c.is_at_work.ensures s)
