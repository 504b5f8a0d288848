use Rattle.delivery_machine.proofs.Kept.{kinds_agree}
use Rattle.position_core.specs.declared.kind.Kind.TheVariants.{Shared}
use Rattle.dispatch_core.proofs.Telling.{tells-new}
use Rattle.dispatch_shared.proofs.Agreeing.{nobody_in_line}
use Rattle.dispatch_shared.proofs.shared.SharedDispatcher.begin.Goals as goal

pub returns-clause-ok : goal.returns-clause-ok
returns-clause-ok g c = record {
  kind = kinds_agree _ Shared c.requires.kind;
  waiting = rw c.new.ensures (tells-new (g.V.View.state c.args._view.now) (g.V.View.subscription c.args._view.now));
  line = nobody_in_line (g.V.View.state c.args._view.now) (g.V.View.subscription c.args._view.now) c.new-2.result.items c.new-2.ensures.items c.requires.empty;
}
