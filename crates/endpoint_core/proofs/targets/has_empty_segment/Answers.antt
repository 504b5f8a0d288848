use Rattle.std.proofs.Common.{ℕ, List, length, lit<, rules, tests}
use Rattle.std.specs.Prelude.{◌==◌}
use Rattle.std.proofs.lemmas.Iterator.Adapters.{YieldsList-from_skip}
use Rattle.std.proofs.lemmas.Iterator.Search.{any_from_yields_List}
use Rattle.std.proofs.lemmas.Iterator.Splits.{YieldsList-from_str_split}
use Rattle.endpoint_core.proofs.targets.has_empty_segment.Goals as goal

pub returns : goal.returns
returns c = any_from_yields_List (λ (segment : List ℕ). length segment == 0) _ _ _ c.any.ensures.ran (YieldsList-from_skip 1 (YieldsList-from_str_split 47 c.args.path.now (lit< tt) (cc) (cc) (cc)) c.skip.ensures.count) (λ x b q k. search (rules, tests))
