use Rattle.std.proofs.Common.{◌∙◌}
use Rattle.dispatch_keyed.proofs.Owning.{member_there, member_nowhere}
use Rattle.dispatch_keyed.proofs.hashes.member_of.Goals as goal

pub returns-in-Some : goal.returns-in-Some
returns-in-Some g c is =
    c.member.ensures.seen ∙ member_there (g.V.View.state c.args.view.now) (g.V.View.subscription c.args.view.now) c.args.line.now c.args.consumer is c.in-Some.place c.in-Some.ensures

pub returns-in-None : goal.returns-in-None
returns-in-None g c is = member_nowhere (g.V.View.state c.args.view.now) (g.V.View.subscription c.args.view.now) c.args.line.now c.args.consumer is c.in-None.ensures
