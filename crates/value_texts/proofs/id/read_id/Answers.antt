use Rattle.std.proofs.Common.{arith, ap, length}
use Rattle.value_texts.proofs.Ids.{text_short, text_not_refused, read_is_text, text_is_read}
use Rattle.value_texts.proofs.id.read_id.Goals as goal

pub returns-then-text-gt-LONGEST_TEXT-clause-all_read :
    goal.returns-then-text-gt-LONGEST_TEXT-clause-all_read
returns-then-text-gt-LONGEST_TEXT-clause-all_read c p is = absurd (omega (arith, ap length is.text_is, text_short p))

pub returns-in_default-clause-all_read : goal.returns-in_default-clause-all_read
returns-in_default-clause-all_read c p is = absurd (text_not_refused p c.args.text.now c.in_default.field-0 is.text_is c.in_default.ensures.err)

pub returns-clause-ok : goal.returns-clause-ok
returns-clause-ok c = rw c.ok_or.ensures.value (read_is_text c.args.text.now _ c.position_in.result (λ i. omega (arith, c.type_inv.text i)) c.in-Ok.ensures.ok.0 c.position_in.ensures.some c.position_in.ensures.fits)

pub returns-clause-all_read : goal.returns-clause-all_read
returns-clause-all_read c p is = rw c.ok_or.ensures.value (text_is_read c.args.text.now _ c.position_in.result p is.text_is c.in-Ok.ensures.ok.0 (c.position_in.ensures.all_read p is.ledger is.entry))
