use Rattle.std.proofs.Common.{arith, rules, ◌≡◌, map}
use Rattle.std.specs.Map.Iter.{deref_pair}
use Rattle.std.proofs.lemmas.Map.Iter.{iter_end}
use Rattle.position_core.specs.Properties.{pairs_of}
use Rattle.broker_parts.proofs.Bulks.{few_bytes}
use Rattle.broker_parts.proofs.weight.properties_size.Goals as goal

pub returns-clause-value : goal.returns-clause-value
returns-clause-value c =
    let all : map deref_pair c.loop-name.yielded ≡ c.as_map.result.now.entries = search (rules, iter_end) in
    let size = rw all at c.loop-name.invariant in
    rw (← c.as_map.ensures.value) (omega (arith, size, few_bytes (pairs_of c.as_map.result.now) c.as_map.ensures.within))

pub returns-clause-few : goal.returns-clause-few
returns-clause-few c =
    let all : map deref_pair c.loop-name.yielded ≡ c.as_map.result.now.entries = search (rules, iter_end) in
    let size = rw all at c.loop-name.invariant in
    omega (arith, size, few_bytes (pairs_of c.as_map.result.now) c.as_map.ensures.within)
