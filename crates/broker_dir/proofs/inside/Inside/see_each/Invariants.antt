use Rattle.std.proofs.Common.{◌≡◌}
use Rattle.std.specs.Prelude.{All}
use Rattle.broker_dir.specs.Seeing.{ShowsSubscription}
use Rattle.broker_dir.proofs.inside.Inside.see_each.Given as goal

abbrev pub invariant-loop-kept : goal.invariant-loop-kept
invariant-loop-kept g l = record {
  shows : All (ShowsSubscription l.fn.self.topic.cell.cell.state) l.fn.seen.items → All (ShowsSubscription l.fn.self.topic.cell.cell.state) l.seen.items;
  state : l.self.topic.cell.cell.state ≡ l.fn.self.topic.cell.cell.state;
  name : l.self.topic.name ≡ l.fn.self.topic.name;
  stage : l.self.stage ≡ l.fn.self.stage;
}
