use Rattle.std.proofs.Common.{◌∙◌, ap, ℕ, List, subst, arith}
use Rattle.position_core.specs.declared.block.Block.{Block}
use Rattle.delivery_machine.specs.ShareSets.{AreApart}
use Rattle.hash_ranges.proofs.Apart.{in_first, before_first, none_first, first_from}
use Rattle.hash_ranges.proofs.sticky.StickyShares.share_at.Goals as goal

pub returns-then-block-from : goal.returns-then-block-from
returns-then-block-from c =
    in_first c.args.hash 0 c.args.self.now c.in-Some.block (subst (λ (bs : List Block). AreApart 0 bs) c.self.view_is c.self.invariant)
    (c.in-Some.ensures ∙ ap (λ (h : ℕ). first_from h c.args.self.now) c.from.ensures) (omega arith)

pub returns-else-block-from : goal.returns-else-block-from
returns-else-block-from c =
    before_first c.args.hash 0 c.args.self.now c.in-Some.block (subst (λ (bs : List Block). AreApart 0 bs) c.self.view_is c.self.invariant)
    (c.in-Some.ensures ∙ ap (λ (h : ℕ). first_from h c.args.self.now) c.from.ensures) (omega arith)

pub returns-in-None : goal.returns-in-None
returns-in-None c =
    none_first c.args.hash 0 c.args.self.now (subst (λ (bs : List Block). AreApart 0 bs) c.self.view_is c.self.invariant)
    (c.in-None.ensures ∙ ap (λ (h : ℕ). first_from h c.args.self.now) c.from.ensures)
