use Rattle.std.proofs.Common.{refl}
use Rattle.std.specs.Prelude.{codes}
use Rattle.json.specs.Print.{escape_byte}
use Rattle.json_values.proofs.Written.{comma_pushed, field_pushed}
use Rattle.json_values.specs.Written.{object_with, property_fields}
use Rattle.wire_json.specs.Deliveries.{properties_field}
use Rattle.wire_json.proofs.deliveries.push_properties.Goals as goal

pub returns : goal.returns
unfolding escape_byte
returns c =
    comma_pushed _ _ _ (properties_field c.args.properties.now)
    (field_pushed (codes "properties") _ _ _ _ _ (object_with (property_fields c.args.properties.now)) refl refl c.in_ok-push_str.ensures.bytes c.in_ok-append_properties.ensures.bytes)
    c.in_ok-push_str-2.ensures.bytes
