use Rattle.std.proofs.Common.{◌+◌, rules}
use Rattle.std.specs.Prelude.{nat_le}
use Rattle.std.proofs.lemmas.List.Sorted.{IsPartitionedBy-leb, IsPartitionPoint-from_clause}
use Rattle.hash_ranges.proofs.Apart.{ends_rise, place_found}
use Rattle.hash_ranges.proofs.blocks.place_from.Goals as goal

pub returns : goal.returns
returns c =
    let bs = c.args.blocks.now in
    place_found c.args.hash bs c.partition_point.result c.partition_point.ensures.bound
    (IsPartitionPoint-from_clause (λ b. nat_le (b.from + b.size) c.args.hash) bs c.partition_point.result c.partition_point.ensures.partitioned (IsPartitionedBy-leb (λ b. b.from + b.size) bs c.args.hash (ends_rise 0 bs c.requires)) (λ a r f' k. search rules))
