use Rattle.std.proofs.Common.{rules, tests, ◌∙◌, sym, string_bytes}
use Rattle.std.proofs.lemmas.List.Folds.{list_all-map}
use Rattle.std.proofs.lemmas.Iterator.Search.{all_from_yields_List}
use Rattle.std.proofs.lemmas.Iterator.Consumers.{YieldsList-from_rest}
use Rattle.position_core.specs.Properties.{fits}
use Rattle.position_core.proofs.properties.all_fit.Goals as goal

pub returns : goal.returns
returns c =
    let entries = c.args.values.now.entries in
    all_from_yields_List (λ e. fits (string_bytes e.0, string_bytes e.1)) _ _ _ c.all.ensures.ran (YieldsList-from_rest entries c.iter.ensures.rest) (λ x b q k. search (rules, tests))
    ∙ sym (list_all-map fits (λ e. (string_bytes e.0, string_bytes e.1)) entries)
