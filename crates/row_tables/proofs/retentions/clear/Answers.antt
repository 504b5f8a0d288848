use Rattle.sqlite.specs.declared.error.Error.TheVariants.{SqliteFailure}
use Rattle.sqlite.specs.declared.error.ErrorCode.TheVariants.{TransactionState}
use Rattle.row_tables.proofs.PartLemmas.{running_or}
use Rattle.row_tables.proofs.PerTable.{clears_retention}
use Rattle.row_tables.proofs.retentions.clear.Goals as goal

pub returns-clause-done : goal.returns-clause-done
returns-clause-done g c clean =
    running_or c.args.tx.now.conn.now.in_transaction c.in_ok-execute.field-0 (SqliteFailure TransactionState) c.in_ok-execute.was c.execute.ensures.ended (λ running.
    clears_retention c.args.topic.now _ _ c.in_ok-execute.field-0 (rw c.params-to_sql.ensures at (c.in_ok-execute.ensures.runs clean running)))
