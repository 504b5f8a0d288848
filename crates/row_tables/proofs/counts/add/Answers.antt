use Rattle.sqlite.specs.declared.error.Error.TheVariants.{SqliteFailure}
use Rattle.sqlite.specs.declared.error.ErrorCode.TheVariants.{TransactionState}
use Rattle.row_forms.specs.Places.{number_of}
use Rattle.row_tables.proofs.PartLemmas.{running_or, read_back}
use Rattle.row_tables.proofs.PerTable.{adds_count}
use Rattle.row_tables.proofs.counts.add.Goals as goal

pub returns-clause-done : goal.returns-clause-done
returns-clause-done g c clean =
    running_or c.args.tx.now.conn.now.in_transaction c.in_ok-execute.field-0 (SqliteFailure TransactionState) c.in_ok-execute.was c.execute.ensures.ended (λ running.
    let passed = rw (c.params-to_sql.ensures, c.params-to_sql-2.ensures, c.params-to_sql-3.ensures, c.params-to_sql-4.ensures) at (c.in_ok-execute.ensures.runs clean running) in
    adds_count c.args.topic.now c.args.row.now.sub (number_of c.args.row.now.place) c.args.row.now.times _ _ c.in_ok-execute.field-0 (rw (c.as_str.ensures.value, read_back c.in_ok-place.ensures.value c.in_ok-place.ensures.within) at passed))
