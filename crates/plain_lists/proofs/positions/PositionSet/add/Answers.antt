use Rattle.std.proofs.Common.{ap, ◌∙◌}
use Rattle.std.specs.FinSet as set
use Rattle.plain_lists.proofs.Tables.{added}
use Rattle.plain_lists.proofs.positions.PositionSet.add.Goals as goal

pub returns-clause-ok : goal.returns-clause-ok
returns-clause-ok c =
    ap set.from_list c.in_ok-extend_from_slice.ensures.items
    ∙ added c.self.inside.items.items c.args.positions.now
    ∙ ap (λ s. set.union s (set.from_list c.args.positions.now)) c.self.view_is
