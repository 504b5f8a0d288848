use Rattle.std.proofs.Common.{◌≡◌, ◌∙◌, refl, ap, pos, subst, ◌∷◌, [], ◌++◌, w64, to_z, of_z}
use Rattle.std.proofs.lemmas.Int.{to_z-of_z}
use Rattle.sqlite.specs.declared.error.Error.TheVariants.{SqliteFailure}
use Rattle.sqlite.specs.declared.error.ErrorCode.TheVariants.{TransactionState}
use Rattle.sqlite.specs.declared.types.Value.TheVariants.{Int, Text, Blob as Octets}
use Rattle.sqlite.specs.Held.{state}
use Rattle.position_core.specs.declared.body.Content.{Content}
use Rattle.row_forms.specs.Cells.{ENTRY}
use Rattle.row_forms.specs.Forms.{key_cells}
use Rattle.row_forms.specs.Places.{number_of}
use Rattle.row_forms.specs.Properties.{properties_text}
use Rattle.row_tables.specs.Goes.{Goes, Adds}
use Rattle.row_tables.proofs.PartLemmas.{running_or, read_back}
use Rattle.row_tables.proofs.PerTable.{adds_entry_as}
use Rattle.row_tables.proofs.entries.add.Goals as goal

pub returns-clause-done : goal.returns-clause-done
returns-clause-done g c clean =
    running_or c.args.tx.now.conn.now.in_transaction c.in_ok-execute.field-0 (SqliteFailure TransactionState) c.in_ok-execute.was c.execute.ensures.ended (λ running.
    let e = c.args.entry.now in
    let sequence : to_z w64 (of_z w64 c.sequence_of-sequence.result) ≡ e.sequence = ap (λ z. to_z w64 (of_z w64 z)) c.sequence_of-sequence.ensures.value ∙ to_z-of_z w64 e.sequence c.sequence_of-sequence.ensures.fits in
    let start = Text c.args.topic.now ∷ Int (pos (number_of c.args.place)) ∷ Int (pos e.position.ledger) ∷ Int (pos e.position.entry) ∷ Text e.producer ∷ Int e.sequence ∷ Int (pos e.time) ∷ [] in
    subst (λ (it : Content). Goes (Adds ENTRY ((start ++ (key_cells it.key ++ Text (properties_text e.body.properties) ∷ Octets it.payload ∷ [])) ∷ [])) (state g.S.Store c.args.tx.now.conn.now) (state g.S.Store c.execute.new.self.conn.now)) c.content-content.ensures
    (subst (λ ks. Goes (Adds ENTRY ((start ++ (ks ++ Text (properties_text e.body.properties) ∷ Octets c.content-content.result.now.payload ∷ [])) ∷ [])) (state g.S.Store c.args.tx.now.conn.now) (state g.S.Store c.execute.new.self.conn.now)) c.key_parts-has_key.ensures
    (adds_entry_as c.args.topic.now (number_of c.args.place) e.position.ledger e.position.entry e.producer e.sequence e.time c.key_parts-has_key.result.0 c.key_parts-has_key.result.1.now (properties_text e.body.properties) c.content-content.result.now.payload c.in_ok-execute.field-0
    (c.in_ok-execute.ensures.runs clean running)
    (rw (c.params-to_sql.ensures, c.params-to_sql-2.ensures, c.params-to_sql-3.ensures, c.params-to_sql-4.ensures, c.params-to_sql-5.ensures, c.params-to_sql-6.ensures, c.params-to_sql-7.ensures, c.params-to_sql-8.ensures, c.params-to_sql-9.ensures, c.params-to_sql-10.ensures, c.params-to_sql-11.ensures, read_back c.in_ok-place.ensures.value c.in_ok-place.ensures.within, read_back c.in_ok-ledger.ensures.value c.in_ok-ledger.ensures.within, read_back c.in_ok-number.ensures.value c.in_ok-number.ensures.within, c.as_str.ensures.value, sequence, read_back c.in_ok-time.ensures.value c.in_ok-time.ensures.within, c.millis.ensures.value, c.requires, c.as_slice.ensures.value) refl))))
