use Rattle.json_values.proofs.Pairs.{pairs-insert_entry}
use Rattle.json_values.proofs.fields.add_property.Goals as goal

pub returns-in-Ok : goal.returns-in-Ok
returns-in-Ok c =
    rw (← c.as_str.ensures.value, ← c.in_ok-name.ensures.ok, c.in-Ok.ensures.entries) (pairs-insert_entry c.args.properties.now.entries c.in_ok-name.name c.args.value)
