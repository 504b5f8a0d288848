use Rattle.sqlite.specs.declared.error.Error.TheVariants.{SqliteFailure}
use Rattle.sqlite.specs.declared.error.ErrorCode.TheVariants.{TransactionState}
use Rattle.row_tables.proofs.PartLemmas.{running_or, read_back}
use Rattle.row_tables.proofs.CutLemmas.{cuts_entry}
use Rattle.row_tables.proofs.entries.cut.Goals as goal

pub returns-clause-done : goal.returns-clause-done
returns-clause-done g c clean =
    running_or c.args.tx.now.conn.now.in_transaction c.in_ok-execute.field-0 (SqliteFailure TransactionState) c.in_ok-execute.was c.execute.ensures.ended (λ running.
    let passed = rw (c.params-to_sql.ensures, c.params-to_sql-2.ensures) at (c.in_ok-execute.ensures.runs clean running) in
    cuts_entry c.args.topic.now c.args.end _ _ c.in_ok-execute.field-0 (rw (read_back c.in_ok-end.ensures.value c.in_ok-end.ensures.within) at passed))
