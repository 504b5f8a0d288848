-- What a topic is asked to let go of.
use Rattle.std.specs.Prelude.{◌≡◌, ◌⊎◌, ℕ, ◌-◌, ◌*◌, ◌^◌, max, min, Option, Some, None}
use Rattle.delivery_machine.specs.State.{State}
use Rattle.delivery_machine.specs.Run.{Step}
use Rattle.delivery_machine.specs.declared.event.Event.{Event}
use Rattle.delivery_machine.specs.declared.event.Event.TheVariants.{Trim}
use Rattle.delivery_machine.specs.declared.reply.Reply.{Reply}
use Rattle.delivery_machine.specs.declared.retention.Retention.{Retention}
use Rattle.delivery_machine.specs.declared.retention.Retention.TheVariants.{All, Messages, Age}

-- the topic's own rule, or else the broker's
abbrev pub rule_of : Option Retention → Retention → Retention
rule_of None broker = broker
rule_of (Some own) broker = own

-- a topic that keeps all is asked for nothing; one that keeps so many messages, for those before them, however new; one that keeps
-- by age, for those that are older, if the time is known
abbrev pub trim_by : Retention → Option ℕ → ℕ → Option Event
trim_by All now most = None
trim_by (Messages count) now most = Some (Trim count 253402300799999 most)
trim_by (Age millis) None most = None
trim_by (Age millis) (Some now) most = Some (Trim 0 (now - millis) most)

-- how many messages may go after a store of so many: twice as many as came, and never fewer than sixty-four
abbrev pub most_after : ℕ → ℕ
most_after stored = max 64 (min (stored * 2) (2 ^ 64 - 1))

-- a topic that is asked for nothing stays as it is; one that is asked for something stays, or answers it
abbrev pub MayAnswer : Option Event → State → State → Type 0
MayAnswer None s t = t ≡ s
MayAnswer (Some event) s t = (t ≡ s) ⊎ ((reply : Reply) × Step s event reply t)
