use Rattle.std.proofs.Common.{rules, ◌≡◌}
use Rattle.sqlite.specs.Held.{state}
use Rattle.sqlite.proofs.StateLemmas.{survives_weaker}
use Rattle.delivery_machine.specs.Snapshot.{snapshot_of}
use Rattle.delivery_machine.specs.Places.{snapshot_in}
use Rattle.row_store.proofs.keeper.Keeper.round.Goals as goal

pub returns-in-Err-store_one-clause-crash : goal.returns-in-Err-store_one-clause-crash
returns-in-Err-store_one-clause-crash g c =
    let same : snapshot_in c.in-Ok-part_of.part.kept ≡ snapshot_of c.args.cell.now.cell.state = search rules in
    let left = rw c.in-Ok-part_of.ensures.keeper at c.in-Err-store_one.ensures.crash in
    survives_weaker (state g.S.Store c.args.self.now.conn) (state g.S.Store c.store_one.new.self.conn) _ _ (λ clean db stores. (stores.0, (c.in-Ok-part_of.part.kept, same, stores.1))) left
