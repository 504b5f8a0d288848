use Rattle.std.proofs.Common.{rules, List, ℕ, ap₂, ◌∙◌, w64}
use Rattle.std.specs.Prelude.{ℤ, int_le}
use Rattle.std.proofs.lemmas.Int.{to_z-of_z}
use Rattle.delivery_machine.specs.Words.{known, last_sequence}
use Rattle.topic_log.specs.Written.{written_in}
use Rattle.topic_log.proofs.topic_log.TopicLog.is_duplicate.Goals as goal

pub returns : goal.returns
returns c s =
    ap₂ int_le (to_z-of_z w64 c.args.sequence c.ranges.sequence)
    (to_z-of_z w64 c.last_number.result (search rules)
    ∙ c.last_number.ensures s
    ∙ ap₂ (λ (name : List ℕ) (base : ℤ). last_sequence (known (written_in c.args.self.now s)) name base) c.name.ensures c.base.ensures)
