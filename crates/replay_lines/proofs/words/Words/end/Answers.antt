use Rattle.std.proofs.Common.{◌∙◌}
use Rattle.replay_lines.proofs.Splits.{words_some}
use Rattle.replay_lines.proofs.words.Words.end.Goals as goal

pub returns-in-Some-clause-some : goal.returns-in-Some-clause-some
returns-in-Some-clause-some c = λ ended. let left = c.self.view_is ∙ ended in words_some c.in-Some.field-0.now (rw c.in-Some.is at left)
