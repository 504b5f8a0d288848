use Rattle.std.proofs.lemmas.Result.{on_ok_weaker}
use Rattle.row_forms.specs.Schema.{schema_8, schema_9}
use Rattle.row_schema.proofs.TextLemmas.{retention_leads}
use Rattle.row_schema.proofs.making.define_retentions.Goals as goal

pub returns-clause-done : goal.returns-clause-done
returns-clause-done g c clean = on_ok_weaker c.define.result (λ made. made schema_8 schema_9 retention_leads) (c.define.ensures.done clean)
