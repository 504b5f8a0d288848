use Rattle.dispatch_core.specs.Log.{line_of}
use Rattle.dispatch_single.proofs.Agreeing.{tells-left}
use Rattle.dispatch_single.proofs.line.Line.leave.Goals as goal

pub returns : goal.returns
returns g c = λ line is was.
    tells-left c.args.self.now line (line_of (g.V.View.state c.args.view.now) (g.V.View.subscription c.args.view.now)) was c.once_left-self.result c.still_in_line-self.result c.args.consumer is
    (c.once_left-self.ensures line is was.differ was.active) c.still_in_line-self.ensures
