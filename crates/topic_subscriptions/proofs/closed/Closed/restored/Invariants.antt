use Rattle.std.proofs.Common.{◌≡◌, take}
use Rattle.topic_subscriptions.specs.Closed.{outcomes_of}
use Rattle.topic_subscriptions.proofs.closed.Closed.restored.Given as goal

abbrev pub invariant-loop-place : goal.invariant-loop-place
invariant-loop-place l = l.closed ≡ outcomes_of l.fn.acknowledged (take l.place-index l.dead)
