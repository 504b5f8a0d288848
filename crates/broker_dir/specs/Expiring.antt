-- When a subscription goes that nobody asked to be dropped.
use Rattle.std.specs.Prelude.{◌≡◌, ◌⊎◌, ℕ, List}
use Rattle.delivery_machine.specs.State.{State}
use Rattle.delivery_machine.specs.Run.{Step}
use Rattle.delivery_machine.specs.declared.event.Event.TheVariants.{DropSubscription}
use Rattle.delivery_machine.specs.declared.reply.Reply.{Reply}

-- the topic stays as it is; or it was asked to drop one such subscription, and answered
abbrev pub MayDrop : (List ℕ → Type 0) → State → State → Type 0
MayDrop IsSuch s t = (t ≡ s) ⊎ ((name : List ℕ) × IsSuch name × (reply : Reply) × Step s (DropSubscription name) reply t)
