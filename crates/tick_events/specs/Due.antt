-- Which pending messages of a subscription are due.
use Rattle.std.specs.Prelude.{◌≡◌, ℕ, true, false}
use Rattle.std.specs.FinMap as map_of
use Rattle.position_core.specs.declared.position.Position.{Position}
use Rattle.delivery_machine.specs.Ticking.{is_due}
use Rattle.topic_subscriptions.specs.Placed.{Placed}

-- the message is pending, and due at the moment
abbrev pub IsDueNow : Placed → ℕ → Position → Type 0
IsDueNow p now position = is_due now (map_of.get p.pending.pending position) ≡ true

-- no pending message is due at the moment
abbrev pub NoneDue : Placed → ℕ → Type 0
NoneDue p now = (position : Position) → is_due now (map_of.get p.pending.pending position) ≡ false
