use Rattle.std.proofs.Common.{String, Global, string_bytes, ◌∙◌, rules, tests}
use Rattle.std.proofs.lemmas.Iterator.{YieldsList-from_slice}
use Rattle.std.proofs.lemmas.Iterator.Search.{any_from_yields_List}
use Rattle.endpoint_core.specs.Origins.{is_same}
use Rattle.endpoint_core.proofs.Named.{any_of_map}
use Rattle.endpoint_core.proofs.admitted.is_among.Goals as goal

pub returns : goal.returns
returns c =
    any_from_yields_List (λ (one : String Global). is_same (string_bytes one) c.args.text.now) _ _ _ c.any.ensures.ran (YieldsList-from_slice c.args.texts.now cc) (λ x b q k. search (rules, tests))
    ∙ any_of_map (λ one. is_same one c.args.text.now) string_bytes c.args.texts.now
