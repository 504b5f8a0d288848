use Rattle.std.proofs.Common.{◌-◌, ◌≤◌}
use Rattle.topic_subscriptions.specs.Less.{AreAdded, EndBefore}
use Rattle.topic_subscriptions.proofs.less.push_less.Given as goal

abbrev pub invariant-each : goal.invariant-each
invariant-each l = record {
  begun : l.start ≤ l.from;
  within : l.from ≤ l.end;
  apart : EndBefore l.left l.from;
  added : AreAdded l.initial.left l.owed.places l.start l.from l.left;
}

abbrev pub decreases-each : goal.decreases-each
decreases-each l = l.end - l.from
