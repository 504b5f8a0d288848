use Rattle.std.proofs.lemmas.Result.{on_ok_weaker}
use Rattle.row_forms.specs.Schema.{schema_6, schema_7}
use Rattle.row_schema.proofs.TextLemmas.{redelivery_leads}
use Rattle.row_schema.proofs.raising.define_counts.Goals as goal

pub returns-clause-done : goal.returns-clause-done
returns-clause-done g c clean = on_ok_weaker c.define.result (λ made. made schema_6 schema_7 redelivery_leads) (c.define.ensures.done clean)
