use Rattle.json_values.specs.Written.{property_fields}
use Rattle.json_values.proofs.Written.{object_pushed}
use Rattle.json_values.proofs.properties.append_properties.Goals as goal

pub returns-clause-bytes : goal.returns-clause-bytes
returns-clause-bytes c =
    let list = rw c.as_map.ensures.value at c.in_ok-push_property_list.ensures.bytes in
    object_pushed _ _ _ _ (property_fields c.args.properties.now) c.in_ok-push_str.ensures.bytes list c.in_ok-push_str-2.ensures.bytes
