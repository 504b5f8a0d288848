use Rattle.broker_dir.specs.Seeing.{ShowsSubscription}
use Rattle.broker_dir.proofs.Looked.{all_pushed}
use Rattle.broker_dir.proofs.inside.Inside.see_one.Goals as goal

pub returns-after-push-clause-shows : goal.returns-after-push-clause-shows
returns-after-push-clause-shows g c earlier =
    all_pushed (ShowsSubscription c.args.self.now.topic.cell.cell.state) _ _ _ _ c.push.ensures.items (rw c.in-Ok-Some.field-0-is at c.in-Ok-Some.ensures.shows) earlier
