use Rattle.hash_rows.proofs.Shed.{knows_from}
use Rattle.hash_rows.proofs.row.Row.shed.Goals as goal

pub returns-then-gone-len : goal.returns-then-gone-len
returns-then-gone-len c =
    let call = c.drop_front.ensures in
    knows_from c.args.base c.start-gone.result c.args.self.now c.drop_front.new.self c.start-gone.ensures call.places call.waits call.holds call.keeper
