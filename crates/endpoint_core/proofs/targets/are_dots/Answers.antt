use Rattle.std.proofs.Common.{ℕ, rules, tests}
use Rattle.std.proofs.lemmas.Iterator.Consumers.{YieldsList-from_first}
use Rattle.std.proofs.lemmas.Iterator.Search.{all_from_yields_List}
use Rattle.percent_encoding.specs.Iter.{decoded_bytes}
use Rattle.percent_encoding.specs.Percent.{percent_decode}
use Rattle.endpoint_core.specs.OneReading.{is_dot}
use Rattle.endpoint_core.proofs.targets.are_dots.Goals as goal

pub returns : goal.returns
returns c = all_from_yields_List is_dot c.all.new.self _ _ c.all.ensures.ran (YieldsList-from_first (λ (byte : ℕ). byte) decoded_bytes {s = c.percent_decode.result} (percent_decode c.args.segment.now) (rw c.as_bytes.ensures.value at c.percent_decode.ensures.bytes)) (λ x b q k. search (rules, tests))
