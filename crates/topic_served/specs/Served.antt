-- A topic: its parts, and a dispatcher beside each subscription.
use Rattle.delivery_machine.specs.State.{State}
use Rattle.delivery_machine.specs.Laws.{IsReached}
use Rattle.dedup_core.specs.Sequences.{AgreesWith}
use Rattle.topic_served.specs.Told.{AreTold}
use Rattle.topic_log.specs.Written.{all_of}
use Rattle.topic_parts.specs.Parts.{AreTied, state_of}
use Rattle.topic_served.specs.declared.served.Served.{Served}

-- the machine's state that it is in
abbrev pub state_in : Served → State
state_in c = state_of c.parts

-- its parts are tied to one another, and each dispatcher agrees with its subscription
pub record IsBound (c : Served) : Type 0 where
  pub numbers : AgreesWith (all_of c.parts.log) c.parts.log.numbers
  pub tied : AreTied c.parts
  pub told : AreTold c.dispatchers.items (state_in c)

-- so it stands between events
pub record IsSettled (c : Served) : Type 0 where
  pub reached : IsReached (state_in c)
  pub bound : IsBound c
