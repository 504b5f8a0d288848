use Rattle.sqlite.specs.declared.error.Error.TheVariants.{SqliteFailure}
use Rattle.sqlite.specs.declared.error.ErrorCode.TheVariants.{TransactionState}
use Rattle.std.proofs.lemmas.Result.{on_ok_weaker}
use Rattle.row_forms.specs.Places.{number_of}
use Rattle.row_tables.proofs.PartLemmas.{running_or, read_back}
use Rattle.row_tables.proofs.PerTable.{swaps_ack}
use Rattle.row_tables.proofs.acks.set_last.Goals as goal

pub returns-clause-done : goal.returns-clause-done
returns-clause-done g c clean =
    on_ok_weaker c.took_one.result (λ one. running_or c.args.tx.now.conn.now.in_transaction c.in_ok-count.count (SqliteFailure TransactionState) c.in_ok-count.was c.execute.ensures.ended (λ running.
    let passed = rw (c.params-to_sql.ensures, c.params-to_sql-2.ensures, c.params-to_sql-3.ensures, c.params-to_sql-4.ensures, c.params-to_sql-5.ensures) at (c.in_ok-count.ensures.runs clean running) in
    swaps_ack c.args.topic.now c.args.row.now.sub (number_of c.args.row.now.first) (number_of c.args.row.now.last) (number_of c.args.last) _ _ c.in_ok-count.count one
    (rw (c.as_str.ensures.value, read_back c.in_ok-first.ensures.value c.in_ok-first.ensures.within, read_back c.in_ok-was.ensures.value c.in_ok-was.ensures.within, read_back c.in_ok-last.ensures.value c.in_ok-last.ensures.within) at passed))) c.took_one.ensures
