use Rattle.broker_dir.specs.Seeing.{IsLook}
use Rattle.broker_dir.proofs.Looked.{all_pushed}
use Rattle.broker_dir.proofs.overview.see_one.Goals as goal

pub returns-after-push : goal.returns-after-push
returns-after-push g c = record {
  looks = all_pushed (IsLook g.row.T.Denot g.row.J.Denot g.row.B.Denot g.T.Topic g.T.Saved g.J.Naming) _ _ _ _ c.push.ensures.items (rw c.in-Ok-Some.field-0-is at c.in-Ok-Some.ensures.look);
}
