use Rattle.sqlite.specs.declared.error.Error.TheVariants.{SqliteFailure}
use Rattle.sqlite.specs.declared.error.ErrorCode.TheVariants.{TransactionState}
use Rattle.position_core.specs.TopicName.{topic_text}
use Rattle.row_tables.proofs.PartLemmas.{running_or, read_back}
use Rattle.row_tables.proofs.PerTable.{adds_topic}
use Rattle.row_tables.proofs.topics.add.Goals as goal

pub returns-clause-done : goal.returns-clause-done
returns-clause-done g c clean =
    running_or c.args.tx.now.conn.now.in_transaction c.in_ok-execute.field-0 (SqliteFailure TransactionState) c.in_ok-execute.was c.execute.ensures.ended (λ running.
    let passed = rw (c.params-to_sql.ensures, c.params-to_sql-2.ensures, c.params-to_sql-3.ensures, c.params-to_sql-4.ensures) at (c.in_ok-execute.ensures.runs clean running) in
    adds_topic (topic_text c.args.kept.now.name) c.args.kept.now.ledger_size c.args.kept.now.ledger c.args.kept.now.next_ordinal _ _ c.in_ok-execute.field-0 (rw (c.requires, c.get-size.ensures.value, c.ledger_size.ensures, read_back c.in_ok-ledger.ensures.value c.in_ok-ledger.ensures.within, read_back c.in_ok-ordinal.ensures.value c.in_ok-ordinal.ensures.within, c.ledger.ensures, c.next_ordinal.ensures) at passed))
