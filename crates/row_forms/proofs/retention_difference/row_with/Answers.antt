use Rattle.std.proofs.Common.{ap, ◌∙◌, sym}
use Rattle.row_forms.specs.Forms.{retention_row}
use Rattle.row_forms.proofs.retention_difference.row_with.Goals as goal

pub returns-in-Some : goal.returns-in-Some
returns-in-Some c topic = c.row_by.ensures topic ∙ ap (retention_row topic c.args.gone) (sym c.in-Some.is)
