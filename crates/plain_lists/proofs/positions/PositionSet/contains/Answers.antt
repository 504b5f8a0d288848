use Rattle.std.specs.FinSet as set
use Rattle.position_core.specs.Position.{positions_total}
use Rattle.plain_lists.proofs.positions.PositionSet.contains.Goals as goal

pub returns : goal.returns
returns c =
    let members = set.contains-from_list positions_total c.self.inside.items.items c.args.position in
    cc (c.is_one_of.ensures, c.deref.ensures.value, c.self.view_is, members)
