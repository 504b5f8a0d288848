use Rattle.std.proofs.Common.{◌-◌, ◌++◌, take}
use Rattle.session_links.specs.Looking.{next_from}
use Rattle.session_links.proofs.Left.{IsSoFar}
use Rattle.session_links.proofs.looking.push_left.Given as goal

abbrev pub invariant-each : goal.invariant-each
invariant-each l = IsSoFar l.kept (take l.end l.snapshot.log) (l.fn.shown ++ next_from l.kept 0 l.fn.count (take l.end l.snapshot.log)) l.shown l.place l.left

abbrev pub decreases-each : goal.decreases-each
decreases-each l = l.end - l.place
