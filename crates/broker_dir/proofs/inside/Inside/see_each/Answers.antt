use Rattle.std.proofs.Common.{◌∙◌}
use Rattle.broker_dir.proofs.Looked.{shown_on}
use Rattle.broker_dir.proofs.inside.Inside.see_each.Goals as goal

pub returns-in-Err-clause-shows : goal.returns-in-Err-clause-shows
returns-in-Err-clause-shows g c =
    shown_on c.args.self.now.topic.cell.cell.state c.loop-kept.self.topic.cell.cell.state c.args.seen.now.items c.loop-kept.seen.items c.see_one.new.seen.items c.loop-kept.invariant.state c.loop-kept.invariant.shows c.see_one.ensures.shows

pub loop-kept-preserved : goal.loop-kept-preserved
loop-kept-preserved g c = record {
  shows = shown_on c.args.self.now.topic.cell.cell.state c.loop-kept.self.topic.cell.cell.state c.args.seen.now.items c.loop-kept.seen.items c.see_one.new.seen.items c.loop-kept.invariant.state c.loop-kept.invariant.shows c.see_one.ensures.shows;
  state = c.see_one.ensures.state ∙ c.loop-kept.invariant.state;
  name = c.see_one.ensures.name ∙ c.loop-kept.invariant.name;
  stage = c.see_one.ensures.stage ∙ c.loop-kept.invariant.stage;
}
