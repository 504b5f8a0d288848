use Rattle.std.proofs.Common.{refl, w64}
use Rattle.std.proofs.lemmas.Int.{to_z-of_z}
use Rattle.std.specs.Prelude.{codes}
use Rattle.std.specs.Fmt.{signed_decimal}
use Rattle.json.specs.Json.{number}
use Rattle.json.specs.Print.{escape_byte}
use Rattle.json_values.proofs.Written.{compact_number, field_pushed}
use Rattle.wire_json.proofs.peeks.push_sequence.Goals as goal

pub returns : goal.returns
unfolding escape_byte
returns c =
    let digits = rw (to_z-of_z w64 c.args.sequence c.ranges.sequence) at c.in_ok-push_signed.ensures in
    field_pushed (codes "sequenceId") _ _ _ _ _ (number (signed_decimal c.args.sequence)) (compact_number _) refl c.in_ok-push_str.ensures.bytes digits
