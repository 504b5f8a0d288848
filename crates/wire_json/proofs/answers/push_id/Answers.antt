use Rattle.std.proofs.Common.{refl}
use Rattle.std.specs.Prelude.{codes}
use Rattle.json.specs.Print.{escape_byte}
use Rattle.json_values.proofs.Written.{plain_comma_pushed}
use Rattle.wire_json.proofs.PlainTexts.{plain_id}
use Rattle.wire_json.proofs.answers.push_id.Goals as goal

pub returns : goal.returns
unfolding escape_byte
returns c =
    plain_comma_pushed (codes "messageId") _ _ _ _ _ _ (plain_id c.args.id) refl c.in_ok-push_str.ensures.bytes c.in_ok-append_id.ensures.ok c.in_ok-push_str-2.ensures.bytes
