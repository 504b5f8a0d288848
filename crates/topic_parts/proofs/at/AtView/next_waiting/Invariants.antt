use Rattle.std.proofs.Common.{◌-◌}
use Rattle.topic_parts.specs.Parts.{state_of}
use Rattle.topic_parts.proofs.Waiting.{IsSearched}
use Rattle.topic_parts.proofs.at.AtView.next_waiting.Given as goal

abbrev pub invariant-loop-place : goal.invariant-loop-place
invariant-loop-place l = IsSearched (state_of l.self.parts.now) l.self.subscription.now l.self.placed l.from l.place

abbrev pub decreases-loop-place : goal.decreases-loop-place
decreases-loop-place l = l.durable - l.place
