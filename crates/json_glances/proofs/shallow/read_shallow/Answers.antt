use Rattle.std.proofs.Common.{◌≡◌, [], ap, ◌∙◌}
use Rattle.json.specs.Json.{value}
use Rattle.json.proofs.Grammar.{value_is}
use Rattle.serde_json.specs.Read.{converted, of_json}
use Rattle.json_glances.proofs.shallow.read_shallow.Goals as goal

pub returns-in-None-clause-value : goal.returns-in-None-clause-value
returns-in-None-clause-value c = ap (converted of_json) (ap (value c.args.depth) c.in-None.ensures.value.0 ∙ value_is c.args.depth [])
