use Rattle.std.proofs.Common.{refl}
use Rattle.std.specs.Prelude.{codes}
use Rattle.json.specs.Print.{escape_byte}
use Rattle.json_values.proofs.Written.{plain_comma_pushed}
use Rattle.wire_json.proofs.PlainTexts.{plain_message}
use Rattle.wire_json.proofs.answers.push_message.Goals as goal

pub returns : goal.returns
unfolding escape_byte
returns c =
    plain_comma_pushed (codes "errorMsg") _ _ _ _ _ _ (plain_message c.args.error) refl c.in_ok-push_str.ensures.bytes (rw c.message.ensures at c.in_ok-push_str-2.ensures.bytes) c.in_ok-push_str-3.ensures.bytes
