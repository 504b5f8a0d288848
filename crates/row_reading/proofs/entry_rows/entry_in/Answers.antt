use Rattle.std.proofs.Common.{◌≡◌, true, true≢false, ap, sym, subst, ◌∙◌, w64, to_z, of_z, ℤ}
use Rattle.std.proofs.lemmas.Int.{to_z-of_z}
use Rattle.position_core.specs.declared.message.Entry.{Entry}
use Rattle.position_core.specs.declared.body.Content.{Content}
use Rattle.row_reading.specs.Reading.{IsEntryAt}
use Rattle.row_reading.proofs.Entries.{columns_of, entry_shown}
use Rattle.row_reading.proofs.entry_rows.entry_in.Goals as goal

pub returns-clause-shown : goal.returns-clause-shown
returns-clause-shown c =
    let row = c.args.row.now in
    let place = c.args.place in
    let content : Content = c.in-Some-3.content in
    let number : ℤ = c.in-Some-sequence_at.sequence in
    let with_number : ℤ → Content → Entry = λ n body. record { position = c.in-Some.position; producer = c.in-Some-2.producer; sequence = n; time = c.in-Some-moment_at.time; body = body } in
    let same : to_z w64 (of_z w64 number) ≡ number = to_z-of_z w64 number c.in-Some-sequence_at.ensures.within in
    let is : c.entry_of.result ≡ with_number number content = c.entry_of.ensures ∙ ap (λ n. with_number n c.in_ok-body.body) same ∙ ap (with_number number) c.in_ok-body.ensures in
    let at = c.is_at.ensures.shown c.if-not-is_at.false in
    let producer = rw c.in-Some-2.is at c.in_ok-producer.ensures.shown in
    let key = rw c.in-Some-3.is at c.in_ok-content.ensures.key in
    let properties = rw c.in-Some-3.is at c.in_ok-content.ensures.properties in
    let payload = rw c.in-Some-3.is at c.in_ok-content.ensures.payload in
    subst (λ e. IsEntryAt place row e) (sym is)
    (entry_shown row place (with_number number content) at.0 at.1 c.in-Some.ensures.shown.0 c.in-Some.ensures.shown.1 producer c.in-Some-sequence_at.ensures.shown c.in-Some-moment_at.ensures.shown key properties payload)

pub returns-then-not-is_at-clause-all_read : goal.returns-then-not-is_at-clause-all_read
returns-then-not-is_at-clause-all_read c =
    λ e readable shown.
    let h = columns_of c.args.row.now c.args.place e shown in
    let yes : c.is_at.result ≡ true = c.is_at.ensures.all_read h.long h.at in
    true≢false (sym yes ∙ c.if-not-is_at.true)

pub returns-in_default-clause-all_read : goal.returns-in_default-clause-all_read
returns-in_default-clause-all_read c =
    λ e readable shown.
    let h = columns_of c.args.row.now c.args.place e shown in
    c.in_default.ensures.all_read e.position.ledger e.position.entry h.ledger h.entry

pub returns-in_default-2-clause-all_read : goal.returns-in_default-2-clause-all_read
returns-in_default-2-clause-all_read c =
    λ e readable shown.
    let h = columns_of c.args.row.now c.args.place e shown in
    let none = rw c.in_default-2.is at c.in_ok-producer.ensures.all_read in
    none e.producer readable.producer h.producer

pub returns-in_default-sequence_at-clause-all_read : goal.returns-in_default-sequence_at-clause-all_read
returns-in_default-sequence_at-clause-all_read c =
    λ e readable shown.
    let h = columns_of c.args.row.now c.args.place e shown in
    c.in_default-sequence_at.ensures.all_read e.sequence readable.sequence h.sequence

pub returns-in_default-moment_at-clause-all_read : goal.returns-in_default-moment_at-clause-all_read
returns-in_default-moment_at-clause-all_read c =
    λ e readable shown.
    let h = columns_of c.args.row.now c.args.place e shown in
    c.in_default-moment_at.ensures.all_read e.time readable.time h.time

pub returns-in_default-3-clause-all_read : goal.returns-in_default-3-clause-all_read
returns-in_default-3-clause-all_read c =
    λ e readable shown.
    let h = columns_of c.args.row.now c.args.place e shown in
    let none = rw c.in_default-3.is at c.in_ok-content.ensures.all_read in
    none e.body.key e.body.properties e.body.payload readable.content.key readable.content.properties readable.content.texts readable.content.payload h.key h.properties h.payload
