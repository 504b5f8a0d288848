-- One step of a courier, over the callers of its two topics.
use Rattle.std.specs.Prelude.{◌≡◌, ◌⊎◌, ℕ, List, Option, nat_le, if◌then◌else◌}
use Rattle.delivery_machine.specs.declared.event.Event.{Event}
use Rattle.delivery_machine.specs.declared.reply.Reply.{Reply}
use Rattle.delivery_machine.specs.declared.reply.Reply.TheVariants.{ProducerAdded, Progress, Dead, NoDead, Done}
use Rattle.session_links.specs.Links.{Call, Tells, event_call, with_call}
use Rattle.dead_letters.specs.declared.route.Route.{Route}
use Rattle.dead_letters.specs.declared.hand.Hand.{Hand}
use Rattle.dead_letters.specs.declared.hand.Hand.TheVariants.{Empty, Holds, Joined, Copied, Leaves, Waits as Waiting, Moved}
use Rattle.dead_letters.specs.declared.moving.Side.{Side}
use Rattle.dead_letters.specs.declared.moving.Side.TheVariants.{Source, Target}
use Rattle.dead_letters.specs.declared.stepping.Stepped.{Stepped}
use Rattle.dead_letters.specs.declared.stepping.Stepped.TheVariants.{GoesOn, Waits, Ends, Fails}
use Rattle.dead_letters.specs.Moving.{after, move_of}

-- what a step came to, by the hand before it and the answer
abbrev pub outcome_of : Hand → Reply → Stepped
outcome_of Empty (Dead message target ordinal) = GoesOn
outcome_of Empty NoDead = Ends
outcome_of Empty reply = Fails
outcome_of (Holds letter) (ProducerAdded producer auto last) = GoesOn
outcome_of (Holds letter) reply = Fails
outcome_of (Joined letter producer) reply = GoesOn
outcome_of (Copied letter producer length) reply = GoesOn
outcome_of (Leaves producer) reply = Fails
outcome_of (Waiting letter length) (Progress durable all) = if nat_le length durable then GoesOn else Waits
outcome_of (Waiting letter length) reply = Fails
outcome_of (Moved letter) Done = GoesOn
outcome_of (Moved letter) reply = Fails

-- the event is asked at its side, which gives the reply, and the other side hears nothing
abbrev pub AsksAt : Side → Event → Reply → Option (List Call) → Option (List Call) → Option (List Call) → Option (List Call) → Type 0
AsksAt Source event reply source target source' target' =
    Tells (with_call (event_call event reply)) source source' × (target' ≡ target)
AsksAt Target event reply source target source' target' =
    Tells (with_call (event_call event reply)) target target' × (source' ≡ source)

-- One step: the courier's next event is asked at the topic that it is for, and the answer is taken; or there was no memory for
-- the event, nothing is asked, and the hand stays.
abbrev pub Steps : Route → Hand → ℕ → Option (List Call) → Option (List Call) → Stepped → Hand → Option (List Call) → Option (List Call) → Type 0
Steps route hand now source target stepped hand' source' target' =
    ((reply : Reply) × AsksAt (move_of route hand now).side (move_of route hand now).event reply source target source' target'
    × (hand' ≡ after hand reply) × (stepped ≡ outcome_of hand reply))
    ⊎ ((stepped ≡ Fails) × (hand' ≡ hand) × (source' ≡ source) × (target' ≡ target))
