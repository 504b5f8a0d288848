-- A topic with one subscription, which has no members, and with nothing else.
use Rattle.std.specs.Prelude.{[], ◌∷◌}
use Rattle.position_core.specs.declared.kind.Kind.{Kind}
use Rattle.delivery_machine.specs.State.{State, Subscription, fresh}
use Rattle.delivery_machine.specs.declared.event.Initial.TheVariants.{Earliest}
use Rattle.topic_served.specs.Stepping.{unshared}

abbrev pub only : Kind → Subscription
only kind = unshared [] kind Earliest []

abbrev pub bare : Kind → State
bare kind = record (fresh (record { tenant = []; namespace = []; topic = [] }) 0) { subscriptions = only kind ∷ [] }
