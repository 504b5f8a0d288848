use Rattle.std.proofs.Common.{◌≡◌, ℕ, ◌≤◌, List, refl, arith}
use Rattle.position_core.specs.declared.message.Entry.{Entry}
use Rattle.delivery_machine.specs.State.{Subscription, Member}
use Rattle.dispatch_core.specs.Changes.{Kept}
use Rattle.dispatch_core.specs.Log.{waits_at, holder_at, line_of}
use Rattle.topic_tests.specs.Listed.{listed}
use Rattle.topic_tests.proofs.tests.scenes.law.expect_offers.Goals as goal

more_stored : (log : List Entry) (before after : ℕ) (sub : Subscription) (ms : List Member) → before ≤ after → Kept (listed log before ms) sub (listed log after ms) sub
unfolding waits_at holder_at line_of
more_stored log before after sub ms more = record {
  kind = refl;
  log = refl;
  durable = more;
  line = refl;
  shares = refl;
  messages = λ i. record { waits = refl; holder = refl };
}

pub offers-offered-requires-clause-stores : goal.offers-offered-requires-clause-stores
offers-offered-requires-clause-stores g c = more_stored _ 0 3 _ _ (omega arith)
