use Rattle.std.proofs.Common.{◌≡◌, Some, sym, ap, ◌∙◌}
use Rattle.json.specs.Reads.{token_of}
use Rattle.json_glances.proofs.Values.{seen_from, no_bracket}
use Rattle.json_glances.proofs.shallow.read_from.Goals as goal

pub returns-in_ok-value_of-in-Ok-clause-value : goal.returns-in_ok-value_of-in-Ok-clause-value
returns-in_ok-value_of-in-Ok-clause-value c =
    let alike = seen_from c.args.depth (token_of c.args.token) c.args.reader.now (no_bracket c.args.token c.in_default.not-BeginObject) in
    alike ∙ c.in-Ok.ensures.ok ∙ ap (λ d. Some (d, c.pass_from.new.reader)) (sym c.in_ok-value_of-in-Ok.ensures)
