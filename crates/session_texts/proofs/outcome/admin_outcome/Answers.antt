use Rattle.std.proofs.Common.{◌∙◌}
use Rattle.session_texts.proofs.Told.{told_alike}
use Rattle.session_texts.proofs.outcome.admin_outcome.Goals as goal

pub returns-in_default : goal.returns-in_default
returns-in_default c = c.told_outcome.ensures ∙ told_alike _ c.in_default.not-Copies
