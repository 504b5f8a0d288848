use Rattle.std.proofs.Common.{◌≡◌, ◌≤◌, ap, false, subst, sym, true, true≢false, ◌∙◌}
use Rattle.std.specs.FinSet as set
use Rattle.row_reading.specs.Places.{seen}
use Rattle.delivery_machine.specs.State.{DeadLetter}
use Rattle.row_forms.specs.Forms.{index_in}
use Rattle.row_reading.specs.Reading.{IsLetterAt}
use Rattle.row_reading.proofs.Letters.{same_cells}
use Rattle.row_reading.proofs.dead_rows.next_letter.Goals as goal
use Rattle.row_forms.specs.Forms.{Span}

pub returns-in-Ok-false-clause-all_come : goal.returns-in-Ok-false-clause-all_come
returns-in-Ok-false-clause-all_come c =
    λ d readable shown above new_place new_ordinal.
    let span : Span = seen c.args.deaths.kept in
    let e : DeadLetter = c.in-Ok-Some.field-0-0.letter in
    let there = rw c.in-Ok-Some.field-0-is at c.in-Ok-Some.ensures in
    let found : IsLetterAt c.args.name.now span c.args.row.now e = there.shown in
    let viewed : c.letter.inside.ordinal ≡ e.ordinal = ap (λ (x : DeadLetter). x.ordinal) c.letter.view_is in
    let same = same_cells c.args.name.now span c.args.row.now d e shown found in
    let ordinal : d.ordinal ≡ c.letter.inside.ordinal = same.0 ∙ sym viewed in
    let place : index_in span.log d.position ≡ c.in-Ok-Some.field-0-0.index = same.1 ∙ sym there.index in
    let yes : c.in-Ok-false.field-0 ≡ true =
    c.in-Ok-false.ensures.all_come (subst (λ n. c.args.least ≤ n) ordinal above) (subst (λ n. set.contains c.args.indexes.now n ≡ false) place new_place) (subst (λ n. set.contains c.args.ordinals.now n ≡ false) ordinal new_ordinal) in
    true≢false (sym yes ∙ c.in-Ok-false.field-0-test)
