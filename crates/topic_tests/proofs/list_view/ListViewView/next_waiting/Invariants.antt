use Rattle.std.proofs.Common.{ℕ, ◌<◌, ◌≤◌}
use Rattle.topic_tests.specs.Listed.{listed}
use Rattle.dispatch_core.specs.Log.{IsReadyAt}
use Rattle.topic_tests.proofs.list_view.ListViewView.next_waiting.Given as goal

abbrev pub invariant-loop-index : goal.invariant-loop-index
invariant-loop-index l =
    (k : ℕ) → l.from ≤ k → k < l.index → IsReadyAt (listed l.self.log.now l.self.durable l.self.members.now) l.self.subscription.now k → ⊥
