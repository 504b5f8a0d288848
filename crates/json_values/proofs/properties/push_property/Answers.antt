use Rattle.json_values.proofs.Written.{property_pushed}
use Rattle.json_values.proofs.properties.push_property.Goals as goal

pub returns-clause-bytes : goal.returns-clause-bytes
returns-clause-bytes c = property_pushed _ _ _ _ _ _ _ _ c.in_ok-push_comma.ensures.bytes c.in_ok-push_quoted.ensures.bytes c.in_ok-push_str.ensures.bytes c.in_ok-push_quoted-2.ensures.bytes
