use Rattle.std.proofs.lemmas.Result.{on_ok_weaker}
use Rattle.row_forms.specs.Schema.{schema_7, schema_8}
use Rattle.row_schema.proofs.TextLemmas.{author_leads}
use Rattle.row_schema.proofs.making.define_authors.Goals as goal

pub returns-clause-done : goal.returns-clause-done
returns-clause-done g c clean = on_ok_weaker c.define.result (λ made. made schema_7 schema_8 author_leads) (c.define.ensures.done clean)
