use Rattle.std.proofs.Common.{ℕ, ap, ◌∙◌, take}
use Rattle.std.specs.Prelude.{min}
use Rattle.std.specs.List.{position_or_len}
use Rattle.log_pieces.specs.Times.{is_from}
use Rattle.topic_log.specs.Written.{Written}
use Rattle.topic_log.proofs.Earlier.{first_of_taken}
use Rattle.topic_log.proofs.topic_log.TopicLog.count_earlier.Goals as goal

pub returns-clause-value : goal.returns-clause-value
returns-clause-value c =
    c.min.ensures
    ∙ ap (λ (n : ℕ). min c.self.inside.durable n) c.count_earlier.ensures
    ∙ first_of_taken (is_from c.args.time) c.self.inside.durable c.self.inside.entries.log
    ∙ ap (λ (w : Written). position_or_len (is_from c.args.time) (take w.durable w.log.log)) c.self.view_is
