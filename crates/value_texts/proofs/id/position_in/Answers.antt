use Rattle.std.proofs.Common.{[], ◌∷◌, sym, ◌∙◌, ap, Some}
use Rattle.std.proofs.lemmas.List.{append-nil}
use Rattle.value_texts.specs.Id.{varint}
use Rattle.value_texts.proofs.Ids.{first_field_same, fields_same, position_is}
use Rattle.value_texts.proofs.id.position_in.Goals as goal

pub returns-in_err-entry-clause-all_read : goal.returns-in_err-entry-clause-all_read
returns-in_err-entry-clause-all_read c p fits_ledger fits_entry e =
    let first = first_field_same p c.in_ok-ledger.ledger c.in_ok-ledger.rest.now fits_ledger c.in_ok-ledger.ensures.fits (sym c.in_ok-ledger.ensures.some ∙ e) in
    absurd (c.in_err-entry.ensures.none p.entry [] fits_entry (first.1 ∙ ap (λ (rest : _). 16 ∷ rest) (sym (append-nil (varint p.entry)))))

pub returns-then-is_empty-clause-all_read : goal.returns-then-is_empty-clause-all_read
returns-then-is_empty-clause-all_read c p fits_ledger fits_entry e =
    let same = fields_same p c.in_ok-ledger.ledger c.in_ok-entry.entry c.in_ok-entry.rest.now fits_ledger fits_entry c.in_ok-ledger.ensures.fits c.in_ok-entry.ensures.fits (rw (← c.in_ok-entry.ensures.some) (sym c.in_ok-ledger.ensures.some ∙ e)) in
    ap Some (position_is p _ _ same.0 same.1)

pub returns-else-is_empty-clause-all_read : goal.returns-else-is_empty-clause-all_read
returns-else-is_empty-clause-all_read c p fits_ledger fits_entry e =
    let same = fields_same p c.in_ok-ledger.ledger c.in_ok-entry.entry c.in_ok-entry.rest.now fits_ledger fits_entry c.in_ok-ledger.ensures.fits c.in_ok-entry.ensures.fits (rw (← c.in_ok-entry.ensures.some) (sym c.in_ok-ledger.ensures.some ∙ e)) in
    let not_empty = sym c.if-is_empty.false ∙ c.is_empty.ensures in
    let empty = rw same.2 at not_empty in
    cc empty
