use Rattle.std.proofs.Common.{ap, sym, ◌∙◌}
use Rattle.std.specs.Ordering.{nat_cmp}
use Rattle.std.specs.BTreeMap as tree
use Rattle.dispatch_keyed.proofs.Standing.{stands_nowhere}
use Rattle.dispatch_keyed.proofs.rows.stand.Goals as goal

pub returns-in-None-clause-here : goal.returns-in-None-clause-here
returns-in-None-clause-here c =
    let none = sym c.in-None.ensures.value in
    stands_nowhere c.args.rows.now.base c.args.index c.args.waits c.args.holder _ _ none (ap (λ m. tree.get nat_cmp m c.args.hash) c.get_mut.follows.holds-at-none ∙ none)
