use Rattle.topic_served.specs.Served.{state_in}
use Rattle.member_events.proofs.Active.{none_known}
use Rattle.member_events.proofs.subscribing.active_in.Goals as goal

pub active_at-requires-clause-stands : goal.active_at-requires-clause-stands
active_at-requires-clause-stands c = record { name = c.args.name.now; named = c.in-Some.ensures.placed }

pub returns-in-Some : goal.returns-in-Some
returns-in-Some c = c.active_at.ensures c.args.name.now c.in-Some.ensures.placed

pub returns-in-None : goal.returns-in-None
returns-in-None c = none_known (state_in c.args.served.now) c.args.name.now c.in-None.ensures.value
