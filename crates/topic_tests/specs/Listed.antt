-- The state that lists show.
use Rattle.std.specs.Prelude.{ℕ, List, []}
use Rattle.position_core.specs.declared.message.Entry.{Entry}
use Rattle.delivery_machine.specs.State.{State, Member, fresh}

-- a topic without a name that has this log and these members, and nothing else
abbrev pub listed : List Entry → ℕ → List Member → State
listed log durable members =
    record (fresh (record { tenant = []; namespace = []; topic = [] }) 0) { log = log; durable = durable; members = members }
