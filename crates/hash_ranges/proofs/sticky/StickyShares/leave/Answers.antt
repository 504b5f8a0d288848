use Rattle.std.proofs.Common.{◌≡◌, arith, ap, ◌∙◌, sym, subst, List}
use Rattle.std.specs.Prelude.{not}
use Rattle.std.specs.List.{filter}
use Rattle.std.proofs.lemmas.Bool.Decides.{nat_tests}
use Rattle.std.proofs.lemmas.Fn.{filter_same}
use Rattle.position_core.specs.declared.block.Block.{Block}
use Rattle.delivery_machine.specs.Shares.{is_share_of}
use Rattle.delivery_machine.specs.ShareSets.{AreApart}
use Rattle.delivery_machine.proofs.StickyLeft.{others_apart}
use Rattle.hash_ranges.proofs.sticky.StickyShares.leave.Goals as goal

pub invariant_of-self : goal.invariant_of-self
invariant_of-self c =
    let theirs = λ (b : Block). not (is_share_of c.args.consumer b) in
    let left : c.retain.new.self.items ≡ filter theirs c.self.inside.blocks.items = filter_same _ _ _ (λ x b f' k. grind (arith, nat_tests)) _ _ c.retain.ensures.filtered in
    subst (λ (bs : List Block). AreApart 0 bs) (sym left) (others_apart c.args.consumer 0 c.self.inside.blocks.items c.self.invariant)

pub returns : goal.returns
returns c =
    filter_same _ _ _ (λ x b f' k. grind (arith, nat_tests)) _ _ c.retain.ensures.filtered
    ∙ ap (filter (λ (b : Block). not (is_share_of c.args.consumer b))) c.self.view_is
