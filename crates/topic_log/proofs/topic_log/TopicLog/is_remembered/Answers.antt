use Rattle.std.proofs.Common.{Bool, sym, ap, ◌∙◌, drop}
use Rattle.std.specs.Prelude.{◌||◌}
use Rattle.delivery_machine.specs.Trimming.{is_lasting}
use Rattle.topic_log.specs.Written.{written_in}
use Rattle.topic_log.proofs.Forgetting.{not_few}
use Rattle.topic_log.proofs.topic_log.TopicLog.is_remembered.Goals as goal

pub returns-else-after-lt-REMEMBERED : goal.returns-else-after-lt-REMEMBERED
returns-else-after-lt-REMEMBERED c s =
    c.is_lasting.ensures s
    ∙ ap (λ (b : Bool). b || is_lasting (written_in c.args.self.now s) (drop c.args.count c.args.self.now.log.log) c.args.name.now) (sym (not_few c.args.after c.if-after-lt-REMEMBERED.false))
