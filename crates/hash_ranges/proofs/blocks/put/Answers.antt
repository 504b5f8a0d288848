use Rattle.std.proofs.Common.{◌≡◌, ◌∙◌, ap, sym, subst, rules, List}
use Rattle.std.specs.Prelude.{nat_le}
use Rattle.std.specs.List.{insert}
use Rattle.std.proofs.lemmas.List.Sorted.{IsPartitionedBy-leb, IsPartitionPoint-from_clause}
use Rattle.position_core.specs.declared.block.Block.{Block}
use Rattle.delivery_machine.specs.Shares.{with_block}
use Rattle.delivery_machine.specs.ShareSets.{AreApart}
use Rattle.hash_ranges.proofs.Apart.{begins_rise}
use Rattle.hash_ranges.proofs.Placed.{put_found}
use Rattle.hash_ranges.proofs.blocks.put.Goals as goal

pub returns-clause-value : goal.returns-clause-value
returns-clause-value c =
    let bs = c.deref.result.now in
    let place = c.partition_point-place.result in
    let apart = subst (λ (bs : List Block). AreApart 0 bs) (sym c.deref.ensures.value) c.requires.apart in
    let done : c.insert.new.self.items ≡ insert c.args.blocks.now.items place c.args.block = c.in-Ok.ensures.items in
    done ∙ ap (λ (bs : List Block). insert bs place c.args.block) (sym c.deref.ensures.value)
    ∙ put_found c.args.block bs place c.partition_point-place.ensures.bound
    (IsPartitionPoint-from_clause (λ b. nat_le b.from c.args.block.from) bs place c.partition_point-place.ensures.partitioned (IsPartitionedBy-leb (λ b. b.from) bs c.args.block.from (begins_rise 0 bs apart)) (λ a r f' k. search rules))
    ∙ ap (λ (bs : List Block). with_block c.args.block bs) c.deref.ensures.value
