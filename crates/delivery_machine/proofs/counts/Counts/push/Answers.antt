use Rattle.std.proofs.Common.{ap, ◌∙◌, sym, subst}
use Rattle.std.specs.FinMap as map_of
use Rattle.position_core.specs.Position.{position_cmp}
use Rattle.delivery_machine.specs.Counts.{IsAfterAll}
use Rattle.delivery_machine.proofs.CountsListed.{AreRising, counts_in, rising_pushed, counts_pushed}
use Rattle.delivery_machine.proofs.counts.Counts.push.Goals as goal

pub invariant_of-self : goal.invariant_of-self
invariant_of-self c =
    subst AreRising (sym c.in_ok-push.ensures.items)
    (rising_pushed c.self.inside.entries.items c.args.counted c.self.invariant
    (subst (λ (m : map_of.FinMap position_cmp _). IsAfterAll m c.args.counted.position) (sym c.self.view_is) (c.is_after_all.ensures.yes c.if-is_after_all.true)))

pub returns-in_ok-push-clause-after : goal.returns-in_ok-push-clause-after
returns-in_ok-push-clause-after c after =
    ap counts_in c.in_ok-push.ensures.items
    ∙ counts_pushed c.self.inside.entries.items c.args.counted (subst (λ (m : map_of.FinMap position_cmp _). IsAfterAll m c.args.counted.position) (sym c.self.view_is) after)
    ∙ ap (λ (m : map_of.FinMap position_cmp _). map_of.insert m c.args.counted.position c.args.counted.times) c.self.view_is
