use Rattle.std.proofs.Common.{ℕ}
use Rattle.std.proofs.lemmas.Iterator.Consumers.{YieldsList-from_first, count_from_yields_List}
use Rattle.percent_encoding.specs.Iter.{decoded_bytes}
use Rattle.percent_encoding.specs.Percent.{percent_decode}
use Rattle.endpoint_core.proofs.targets.decoded_len.Goals as goal

pub returns : goal.returns
returns c = count_from_yields_List c.percent_decode.result _ c.count.ensures.ran (YieldsList-from_first (λ (byte : ℕ). byte) decoded_bytes (percent_decode c.args.segment.now) (rw c.as_bytes.ensures.value at c.percent_decode.ensures.bytes))
