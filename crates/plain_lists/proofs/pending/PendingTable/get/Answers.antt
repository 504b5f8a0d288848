use Rattle.plain_lists.proofs.Tables.{get-entries}
use Rattle.plain_lists.proofs.pending.PendingTable.get.Goals as goal

pub returns : goal.returns
returns c =
    let got = get-entries c.self.inside.entries.items c.args.position in
    cc (c.find_at.ensures, c.deref.ensures.value, c.self.view_is, got)
