use Rattle.sqlite.specs.declared.error.Error.TheVariants.{SqliteFailure}
use Rattle.sqlite.specs.declared.error.ErrorCode.TheVariants.{TransactionState}
use Rattle.row_forms.specs.Forms.{kind_number}
use Rattle.std.proofs.lemmas.Result.{on_ok_weaker}
use Rattle.row_tables.proofs.PartLemmas.{running_or}
use Rattle.row_tables.proofs.PerTable.{takes_sub}
use Rattle.row_tables.proofs.subs.remove.Goals as goal

pub returns-clause-done : goal.returns-clause-done
returns-clause-done g c clean =
    on_ok_weaker c.took_one.result (λ one. running_or c.args.tx.now.conn.now.in_transaction c.in_ok-count.count (SqliteFailure TransactionState) c.in_ok-count.was c.execute.ensures.ended (λ running.
    let passed = rw (c.params-to_sql.ensures, c.params-to_sql-2.ensures, c.params-to_sql-3.ensures) at (c.in_ok-count.ensures.runs clean running) in
    takes_sub c.args.topic.now c.args.row.now.name (kind_number c.args.row.now.kind) _ _ c.in_ok-count.count one (rw (c.as_str.ensures.value, c.kind_number-kind.ensures) at passed))) c.took_one.ensures
