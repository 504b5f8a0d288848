-- Subscriptions that go on from a snapshot.
use Rattle.std.specs.Prelude.{◌≡◌, List, [], length}
use Rattle.position_core.specs.declared.message.Entry.{Entry}
use Rattle.delivery_machine.specs.Places.{AreBelow, KeptPlaces, kept_in, positions_at}
use Rattle.delivery_machine.specs.Shares.{no_shares}
use Rattle.delivery_machine.specs.Snapshot.{subscription_from}
use Rattle.delivery_machine.specs.WellFormed.{AreCountsOf, AreDeadLettersOf}
use Rattle.topic_subscriptions.specs.Placed.{IsPlacedIn, Placed, sub_in}

-- what is kept speaks of messages of the log
pub record IsSoundOver (log : List Entry) (kept : KeptPlaces) : Type 0 where
  pub within : AreBelow (length log) kept.acknowledged
  pub counted : AreCountsOf log (positions_at log kept.acknowledged) kept.dead kept.counts
  pub dead : AreDeadLettersOf log kept.dead

-- nobody is there, and nobody has a share
pub record IsAlone (p : Placed) : Type 0 where
  pub line : p.line ≡ []
  pub shares : p.shares ≡ no_shares

-- it is the machine's subscription that goes on from what was kept, and nobody is there
pub record IsRestoredFrom (log : List Entry) (kept : KeptPlaces) (p : Placed) : Type 0 where
  pub state : sub_in log p ≡ subscription_from (kept_in log kept)
  pub placed : IsPlacedIn log [] p
  pub alone : IsAlone p
