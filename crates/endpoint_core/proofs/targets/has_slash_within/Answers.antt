use Rattle.std.proofs.Common.{ℕ, rules, tests}
use Rattle.std.specs.Prelude.{◌==◌}
use Rattle.std.proofs.lemmas.Iterator.Consumers.{YieldsList-from_first}
use Rattle.std.proofs.lemmas.Iterator.Search.{any_from_yields_List}
use Rattle.percent_encoding.specs.Iter.{decoded_bytes}
use Rattle.percent_encoding.specs.Percent.{percent_decode}
use Rattle.endpoint_core.proofs.targets.has_slash_within.Goals as goal

pub returns : goal.returns
returns c = any_from_yields_List (λ (byte : ℕ). byte == 47) c.any.new.self _ _ c.any.ensures.ran (YieldsList-from_first (λ (byte : ℕ). byte) decoded_bytes {s = c.percent_decode.result} (percent_decode c.args.segment.now) (rw c.as_bytes.ensures.value at c.percent_decode.ensures.bytes)) (λ x b q k. search (rules, tests))
