use Rattle.std.proofs.Common.{refl}
use Rattle.std.specs.Prelude.{codes}
use Rattle.json.specs.Print.{escape_byte}
use Rattle.json_values.proofs.Written.{quoted_comma_pushed}
use Rattle.wire_json.proofs.peeks.push_producer.Goals as goal

pub returns : goal.returns
unfolding escape_byte
returns c =
    let name = rw c.as_str.ensures.value at c.in_ok-push_quoted.ensures.bytes in
    quoted_comma_pushed (codes "producerName") _ _ _ _ _ _ refl c.in_ok-push_str.ensures.bytes name c.in_ok-push_str-2.ensures.bytes
