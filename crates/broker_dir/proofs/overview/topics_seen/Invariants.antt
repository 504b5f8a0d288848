use Rattle.std.specs.Prelude.{All}
use Rattle.broker_dir.specs.Seeing.{IsLook}
use Rattle.broker_dir.proofs.overview.topics_seen.Given as goal

abbrev pub invariant-loop-name : goal.invariant-loop-name
invariant-loop-name g l = All (IsLook g.row.T.Denot g.row.J.Denot g.row.B.Denot g.T.Topic g.T.Saved g.J.Naming) l.topics.items
