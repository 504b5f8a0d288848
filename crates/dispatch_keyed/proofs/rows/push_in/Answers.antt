use Rattle.dispatch_keyed.proofs.Standing.{one_more, same_knowledge, then_ok, then_err}
use Rattle.dispatch_keyed.proofs.rows.push_in.Goals as goal

pub returns-clause-ok : goal.returns-clause-ok
returns-clause-ok c =
    then_ok c.push.result (one_more c.args.base c.args.index c.args.row.now c.shed.new.self c.push.new.self c.shed.ensures) c.push.ensures.ok

pub returns-clause-err : goal.returns-clause-err
returns-clause-err c =
    then_err c.push.result (same_knowledge c.args.base c.args.index c.args.row.now c.shed.new.self c.push.new.self c.shed.ensures) c.push.ensures.err
