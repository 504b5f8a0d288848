use Rattle.sqlite.specs.declared.error.Error.TheVariants.{SqliteFailure}
use Rattle.sqlite.specs.declared.error.ErrorCode.TheVariants.{TransactionState}
use Rattle.row_tables.proofs.PartLemmas.{running_or}
use Rattle.row_schema.proofs.UpgradeLemmas.{marks_3}
use Rattle.row_schema.proofs.raising.mark_version_3.Goals as goal

pub returns-clause-done : goal.returns-clause-done
returns-clause-done g c clean =
    running_or c.args.tx.now.conn.now.in_transaction c.in_ok-execute.field-0 (SqliteFailure TransactionState) c.in_ok-execute.was c.execute.ensures.ended (λ running.
    marks_3 _ _ c.in_ok-execute.field-0 (c.in_ok-execute.ensures.runs clean running))
