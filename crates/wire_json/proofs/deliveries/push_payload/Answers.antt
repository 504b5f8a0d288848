use Rattle.std.proofs.Common.{arith, refl}
use Rattle.std.specs.Prelude.{codes}
use Rattle.json.specs.Print.{escape_byte}
use Rattle.base64.specs.GeneralPurpose.{IsBytes}
use Rattle.json_values.proofs.Written.{plain_comma_pushed}
use Rattle.wire_json.proofs.PlainTexts.{plain_payload}
use Rattle.wire_json.proofs.deliveries.push_payload.Goals as goal

pub returns : goal.returns
unfolding escape_byte
returns c =
    let bytes : IsBytes c.args.payload.now = λ i. omega (arith, c.type_inv.payload i) in
    plain_comma_pushed (codes "payload") _ _ _ _ _ _ (plain_payload c.args.payload.now bytes) refl c.in_ok-push_str.ensures.bytes c.in_ok-encode_string.ensures.ok c.in_ok-push_str-2.ensures.bytes
