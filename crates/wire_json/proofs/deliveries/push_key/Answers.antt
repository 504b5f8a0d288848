use Rattle.std.proofs.Common.{refl}
use Rattle.std.specs.Prelude.{codes}
use Rattle.json.specs.Print.{escape_byte}
use Rattle.json_values.proofs.Written.{quoted_comma_pushed}
use Rattle.wire_json.proofs.deliveries.push_key.Goals as goal

pub returns : goal.returns
unfolding escape_byte
returns c =
    let key = rw c.as_str.ensures.value at c.in_ok-push_quoted.ensures.bytes in
    rw c.in-Some.is
    (quoted_comma_pushed (codes "key") _ _ _ _ _ _ refl c.in_ok-push_str.ensures.bytes key c.in_ok-push_str-2.ensures.bytes)
