use Rattle.std.proofs.Common.{◌≡◌, ◌∙◌, ap, pos, [], ◌∷◌, w64, to_z, of_z}
use Rattle.std.proofs.lemmas.Int.{to_z-of_z}
use Rattle.sqlite.specs.declared.error.Error.TheVariants.{SqliteFailure}
use Rattle.sqlite.specs.declared.error.ErrorCode.TheVariants.{TransactionState}
use Rattle.sqlite.specs.declared.types.Value.TheVariants.{Int, Text}
use Rattle.delivery_machine.specs.State.{Author}
use Rattle.row_tables.proofs.Texts.{insert_author}
use Rattle.row_tables.proofs.PartLemmas.{running_or, read_back, as_passed}
use Rattle.row_tables.proofs.PerTable.{adds_author}
use Rattle.row_tables.proofs.authors.add.Goals as goal

pub returns-clause-done : goal.returns-clause-done
returns-clause-done g c clean =
    running_or c.args.tx.now.conn.now.in_transaction c.in_ok-execute.field-0 (SqliteFailure TransactionState) c.in_ok-execute.was c.execute.ensures.ended (λ running.
    let e = c.args.row.now in
    let sequence : to_z w64 (of_z w64 c.sequence_of-sequence.result) ≡ e.sequence = ap (λ z. to_z w64 (of_z w64 z)) c.sequence_of-sequence.ensures.value ∙ to_z-of_z w64 e.sequence c.sequence_of-sequence.ensures.fits in
    let values = Text c.args.topic.now ∷ Int (pos e.index) ∷ Text e.name ∷ Int e.sequence ∷ [] in
    adds_author c.args.topic.now e.index e.name e.sequence _ _ c.in_ok-execute.field-0 (as_passed insert_author values c.in_ok-execute.field-0 (c.in_ok-execute.ensures.runs clean running)
    (rw (c.params-to_sql.ensures, c.params-to_sql-2.ensures, c.params-to_sql-3.ensures, c.params-to_sql-4.ensures, read_back c.in_ok-index.ensures.value c.in_ok-index.ensures.within, c.as_str.ensures.value, sequence) (ap (λ (a : Author). Text c.args.topic.now ∷ Int (pos a.index) ∷ Text a.name ∷ Int e.sequence ∷ []) c.row.view_is))))
