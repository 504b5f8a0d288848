use Rattle.std.proofs.Common.{ap, ◌∙◌}
use Rattle.std.specs.FinSet as set
use Rattle.plain_lists.proofs.Tables.{left_out}
use Rattle.plain_lists.proofs.positions.PositionSet.leave_out.Goals as goal

pub returns : goal.returns
returns c =
    ap set.from_list c.leave_out.ensures
    ∙ left_out c.self.inside.items.items c.args.positions.now
    ∙ ap (λ s. set.difference s (set.from_list c.args.positions.now)) c.self.view_is
