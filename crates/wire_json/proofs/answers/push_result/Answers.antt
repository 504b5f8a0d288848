use Rattle.std.proofs.Common.{refl}
use Rattle.std.specs.Prelude.{codes}
use Rattle.json.specs.Print.{escape_byte}
use Rattle.json_values.proofs.Written.{numbered_pushed}
use Rattle.wire_json.proofs.PlainTexts.{plain_number}
use Rattle.wire_json.proofs.answers.push_result.Goals as goal

pub returns : goal.returns
unfolding escape_byte
returns c =
    let digits = rw (c.from.ensures, c.number.ensures) at c.in_ok-push_decimal.ensures in
    numbered_pushed (codes "result") (codes "send-error:") _ _ _ _ _ _ (plain_number c.args.error) refl c.in_ok-push_str.ensures.bytes digits c.in_ok-push_str-2.ensures.bytes
