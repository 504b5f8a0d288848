use Rattle.std.proofs.Common.{sym, subst}
use Rattle.dispatch_core.proofs.Telling.{tells-new}
use Rattle.dispatch_single.proofs.Agreeing.{nobody_in_line}
use Rattle.dispatch_single.specs.InOrder.{TellsLine}
use Rattle.dispatch_single.proofs.single.SingleDispatcher.begin.Goals as goal

pub returns-clause-ok : goal.returns-clause-ok
returns-clause-ok g c = record {
  kind = c.requires.kind;
  waiting = rw c.new.ensures (tells-new (g.V.View.state c.args._view.now) (g.V.View.subscription c.args._view.now));
  line = subst (TellsLine c.new-2.result) (sym (nobody_in_line (g.V.View.state c.args._view.now) (g.V.View.subscription c.args._view.now) c.requires.empty)) c.new-2.ensures;
}
