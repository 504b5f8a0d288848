-- Who is active, as far as dispatchers know it.
use Rattle.std.specs.Prelude.{List, ℕ, Option, None, if◌then◌else◌}
use Rattle.position_core.specs.Numbers.{ConsumerNumber}
use Rattle.delivery_machine.specs.State.{State}
use Rattle.delivery_machine.specs.Words.{active_at, is_in_order_at}

-- the active member, where one consumer takes the messages in order
abbrev pub active_in_order : State → List ℕ → Option ConsumerNumber
active_in_order s name = if is_in_order_at s name then active_at s name else None
