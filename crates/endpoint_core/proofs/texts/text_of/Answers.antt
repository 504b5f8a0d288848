use Rattle.std.proofs.Common.{sym}
use Rattle.endpoint_core.proofs.Decoded.{is_text, is_no_text}
use Rattle.endpoint_core.proofs.texts.text_of.Goals as goal

pub returns-in-Ok : goal.returns-in-Ok
returns-in-Ok c =
    let utf8 = rw c.percent_decode.ensures.bytes at c.in-Ok.ensures.ok_only_if_utf8 in
    rw (c.in-Ok.ensures.value, c.percent_decode.ensures.bytes) (sym (is_text _ utf8))

pub returns-in-Err-Utf8 : goal.returns-in-Err-Utf8
returns-in-Err-Utf8 c =
    let utf8 = rw c.percent_decode.ensures.bytes at c.in-Err-Utf8.ensures.utf8 in
    sym (is_no_text _ (λ text. cc (utf8 text, c.in-Err-Utf8.field-0-is)))
