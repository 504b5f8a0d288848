use Rattle.std.proofs.Common.{arith}
use Rattle.dispatch_keyed.proofs.Agreed.{nothing_free}
use Rattle.dispatch_keyed.proofs.Blocks.{as_none, where_none}
use Rattle.dispatch_keyed.proofs.keyed.Keyed.first_read.Goals as goal

pub returns-clause-none : goal.returns-clause-none
returns-clause-none g c agreed =
    where_none c.first_between.result (λ none.
    nothing_free c.args.self.now (g.V.View.state c.args.view.now) (g.V.View.subscription c.args.view.now) agreed c.requires
    (λ h within. as_none c.first_between.result none (c.first_between.ensures.none agreed) h (omega arith) (omega (arith, within))))
