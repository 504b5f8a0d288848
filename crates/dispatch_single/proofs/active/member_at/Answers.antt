use Rattle.std.proofs.Common.{◌^◌, Some, None, ap, ◌∙◌}
use Rattle.dispatch_single.proofs.InLine.{seen_in_line, few_in_line}
use Rattle.dispatch_single.proofs.active.member_at.Goals as goal

pub returns-in-Some-clause-pair : goal.returns-in-Some-clause-pair
returns-in-Some-clause-pair g c =
    ap Some c.of.ensures.pair
    ∙ seen_in_line (g.V.View.state c.args.view.now) (g.V.View.subscription c.args.view.now) c.args.place (Some c.in-Some.seen) c.in-Some.ensures.seen

pub returns-in-Some-clause-few : goal.returns-in-Some-clause-few
returns-in-Some-clause-few g c =
    few_in_line (g.V.View.state c.args.view.now) (g.V.View.subscription c.args.view.now) (2 ^ 64) c.in-Some.ensures.few

pub returns-in-None-clause-pair : goal.returns-in-None-clause-pair
returns-in-None-clause-pair g c =
    seen_in_line (g.V.View.state c.args.view.now) (g.V.View.subscription c.args.view.now) c.args.place None c.in-None.ensures.seen

pub returns-in-None-clause-few : goal.returns-in-None-clause-few
returns-in-None-clause-few g c =
    few_in_line (g.V.View.state c.args.view.now) (g.V.View.subscription c.args.view.now) (2 ^ 64) c.in-None.ensures.few
