use Rattle.std.proofs.Common.{[], subst}
use Rattle.row_forms.specs.Changes.{IsDifference}
use Rattle.row_forms.specs.Parts.{row_in}
use Rattle.row_forms.proofs.Differences.{difference-none}
use Rattle.row_forms.proofs.retention_difference.retention_difference.Goals as goal

pub returns-then-is_same : goal.returns-then-is_same
returns-then-is_same c topic =
    rw (c.none.ensures.gone, c.none.ensures.news, c.is_same.ensures c.if-is_same.true) (difference-none (row_in topic c.args.new.now))
