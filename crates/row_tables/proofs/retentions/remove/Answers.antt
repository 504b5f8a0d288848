use Rattle.sqlite.specs.declared.error.Error.TheVariants.{SqliteFailure}
use Rattle.sqlite.specs.declared.error.ErrorCode.TheVariants.{TransactionState}
use Rattle.std.proofs.lemmas.Result.{on_ok_weaker}
use Rattle.row_tables.proofs.PartLemmas.{running_or, read_back}
use Rattle.row_tables.proofs.PerTable.{takes_retention}
use Rattle.row_tables.proofs.retentions.remove.Goals as goal

pub returns-clause-done : goal.returns-clause-done
returns-clause-done g c clean =
    on_ok_weaker c.took_one.result (λ one. running_or c.args.tx.now.conn.now.in_transaction c.in_ok-count.count (SqliteFailure TransactionState) c.in_ok-count.was c.execute.ensures.ended (λ running.
    let passed = rw (c.params-to_sql.ensures, c.params-to_sql-2.ensures, c.params-to_sql-3.ensures, c.params-to_sql-4.ensures) at (c.in_ok-count.ensures.runs clean running) in
    takes_retention c.args.topic.now c.args.row.now.gone c.args.row.now.kind c.args.row.now.amount _ _ c.in_ok-count.count one (rw (read_back c.in_ok-gone.ensures.value c.in_ok-gone.ensures.within, read_back c.in_ok-amount.ensures.value c.in_ok-amount.ensures.within) at passed))) c.took_one.ensures
