use Rattle.topic_subscriptions.proofs.Differing.{pushed}
use Rattle.topic_subscriptions.proofs.less.push.Goals as goal

pub returns-in-Ok : goal.returns-in-Ok
returns-in-Ok c = pushed c.args.left.now c.push_range.new.self c.args.start c.args.end _ c.requires c.in-Ok.ensures.pushed c.in-Ok.ensures.ok
