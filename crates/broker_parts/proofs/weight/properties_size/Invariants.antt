use Rattle.std.proofs.Common.{◌≡◌, ◌-◌, ◌^◌, map, min, sum_by, string_bytes}
use Rattle.std.specs.Map.Iter.{deref_pair}
use Rattle.broker_parts.specs.Bulks.{property_size}
use Rattle.broker_parts.proofs.weight.properties_size.Given as goal

abbrev pub invariant-loop-name : goal.invariant-loop-name
invariant-loop-name l = l.size ≡ min (sum_by property_size (map (λ e. (string_bytes e.0, string_bytes e.1)) (map deref_pair l.yielded))) (2 ^ 64 - 1)
