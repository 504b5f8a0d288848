use Rattle.std.proofs.Common.{List, subst}
use Rattle.position_core.specs.declared.block.Block.{Block}
use Rattle.delivery_machine.specs.ShareSets.{AreApart}
use Rattle.hash_ranges.proofs.Apart.{meets_first, meets_none}
use Rattle.hash_ranges.proofs.sticky.StickyShares.meets.Goals as goal

pub returns-in-Some : goal.returns-in-Some
returns-in-Some c = meets_first c.args.range 0 c.args.self.now c.in-Some.block (subst (λ (bs : List Block). AreApart 0 bs) c.self.view_is c.self.invariant) c.in-Some.ensures

pub returns-in-None : goal.returns-in-None
returns-in-None c = meets_none c.args.range 0 c.args.self.now (subst (λ (bs : List Block). AreApart 0 bs) c.self.view_is c.self.invariant) c.in-None.ensures
