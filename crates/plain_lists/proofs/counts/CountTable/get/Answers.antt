use Rattle.plain_lists.proofs.Tables.{get-entries}
use Rattle.plain_lists.proofs.counts.CountTable.get.Goals as goal

pub returns : goal.returns
returns c =
    let got = get-entries c.self.inside.entries.items c.args.position in
    cc (c.count_in.ensures, c.deref.ensures.value, c.self.view_is, got)
