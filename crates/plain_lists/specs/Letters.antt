-- The first dead letter of a subscription.
use Rattle.std.specs.Option.{option_map_or}
use Rattle.delivery_machine.specs.State.{Subscription}
use Rattle.delivery_machine.specs.Dying.{first_safe, moving}

-- the first letter is gone, and its message acknowledged, where its death is stored
abbrev pub moving_first : Subscription → Subscription
moving_first sub = option_map_or (λ d. moving d sub) (first_safe sub) sub
