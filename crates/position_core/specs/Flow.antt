-- How many messages a consumer takes: room, and what sending and permits change.
use Rattle.std.specs.Prelude.{ℕ, ◌+◌, ◌-◌, Bool, nat_lt, Option, Some, None, if◌then◌else◌}
use Rattle.position_core.specs.declared.fault.Fault.{Fault}
use Rattle.position_core.specs.declared.fault.Fault.TheVariants.{PushMode, TooManyPermits}
use Rattle.position_core.specs.declared.flow.Flow.{Flow}
use Rattle.position_core.specs.declared.flow.Flow.TheVariants.{Window, Credit}

-- a consumer of the flow has room, where so many messages are pending at it
abbrev pub flow_has_room : Flow → ℕ → Bool
flow_has_room (Window size) held = nat_lt held size
flow_has_room (Credit left) held = nat_lt 0 left

-- a consumer begins without credit
abbrev pub begun : Flow → Flow
begun (Window size) = Window size
begun (Credit left) = Credit 0

-- each message that is sent costs a credit of one
abbrev pub spent : Flow → Flow
spent (Window size) = Window size
spent (Credit left) = Credit (left - 1)

-- a permit is for a consumer that pulls, whose credit stays within 2^31-1
abbrev pub granting_refused : ℕ → Flow → Option Fault
granting_refused n (Window size) = Some PushMode
granting_refused n (Credit left) = if nat_lt 2147483647 (left + n) then Some TooManyPermits else None

abbrev pub granted : ℕ → Flow → Flow
granted n (Window size) = Window size
granted n (Credit left) = Credit (left + n)
