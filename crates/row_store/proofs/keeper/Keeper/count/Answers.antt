use Rattle.row_store.proofs.Storing.{holds_through}
use Rattle.row_store.proofs.keeper.Keeper.count.Goals as goal

pub invariant_of-self : goal.invariant_of-self
invariant_of-self g c =
    let k = c.self.inside in
    let held = c.self.invariant in
    let e = c.count.ensures in holds_through g.S.Store k.conn c.count.new.conn k.failed k.known.items k.reading held.0 held.1 held.2 e.autocommit e.crash e.kept e.was_open

pub invariant_of-self-in-Err : goal.invariant_of-self-in-Err
invariant_of-self-in-Err g c =
    let k = c.self.inside in
    let held = c.self.invariant in
    let e = c.count.ensures in holds_through g.S.Store k.conn c.count.new.conn k.failed k.known.items k.reading held.0 held.1 held.2 e.autocommit e.crash e.kept e.was_open
