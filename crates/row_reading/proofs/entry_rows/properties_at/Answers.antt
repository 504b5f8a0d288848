use Rattle.row_forms.specs.Properties.{properties_text}
use Rattle.json_values.proofs.ReadBack.{object_utf8}
use Rattle.row_reading.proofs.entry_rows.properties_at.Goals as goal

pub returns-in-None-clause-all_read : goal.returns-in-None-clause-all_read
returns-in-None-clause-all_read c = λ properties are texts at. c.in-None.ensures.all_read (properties_text properties) (object_utf8 properties texts) at
