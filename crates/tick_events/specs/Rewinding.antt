-- All that is pending in a subscription, redelivered.
use Rattle.std.specs.Prelude.{◌≡◌, List, None}
use Rattle.std.specs.FinMap as map_of
use Rattle.position_core.specs.declared.position.Position.{Position}
use Rattle.position_core.specs.declared.message.Entry.{Entry}
use Rattle.delivery_machine.specs.State.{Member}
use Rattle.delivery_machine.specs.Ticking.{pending_positions_in, redelivering}
use Rattle.topic_subscriptions.specs.Placed.{IsPlacedIn, Placed, sub_in}
use Rattle.topic_parts.specs.Parts.{log_of}
use Rattle.topic_parts.specs.declared.parts.Parts.{Parts}

-- the positions of what is pending in the subscription, in the order of the log
abbrev pub pending_at : Parts → Placed → List Position
pending_at t p = pending_positions_in (log_of t) (sub_in (log_of t) p)

-- nothing is pending any more, and what was is counted once more, whichever log the subscription speaks of
pub record IsRecounted (old new : Placed) : Type 0 where
  pub none : (position : Position) → map_of.get new.pending.pending position ≡ None
  pub counted : (log : List Entry) (members : List Member) → IsPlacedIn log members old
      → sub_in log new ≡ redelivering (pending_positions_in log (sub_in log old)) (sub_in log old)
  pub placed : (log : List Entry) (members : List Member) → IsPlacedIn log members old → IsPlacedIn log members new
