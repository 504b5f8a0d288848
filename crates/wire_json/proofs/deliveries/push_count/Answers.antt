use Rattle.std.proofs.Common.{refl}
use Rattle.std.specs.Prelude.{codes}
use Rattle.std.specs.Fmt.{decimal}
use Rattle.json.specs.Json.{number}
use Rattle.json.specs.Print.{escape_byte}
use Rattle.json_values.proofs.Written.{compact_number, field_pushed}
use Rattle.wire_json.proofs.deliveries.push_count.Goals as goal

pub returns : goal.returns
unfolding escape_byte
returns c =
    let digits = rw c.from.ensures at c.in_ok-push_decimal.ensures in
    field_pushed (codes "redeliveryCount") _ _ _ _ _ (number (decimal c.args.count)) (compact_number _) refl c.in_ok-push_str.ensures.bytes digits
