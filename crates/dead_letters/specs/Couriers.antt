-- What couriers are told apart by: their names as producers, and the sequence numbers of their copies.
use Rattle.std.specs.Prelude.{◌≡◌, ℕ, ◌^◌, ◌<◌, pos, Bool, false, ◌&&◌, List, codes, nat_eq, IsTrue}
use Rattle.std.specs.List.{starts_with}
use Rattle.std.specs.Str.{bytes_eq}
use Rattle.position_core.specs.declared.topic_name.TopicName.{TopicName}
use Rattle.position_core.specs.Name.{is_name}
use Rattle.delivery_machine.specs.declared.event.Event.TheVariants.{Publish}
use Rattle.dead_letters.specs.declared.route.Route.{Route}
use Rattle.dead_letters.specs.declared.hand.Letter.{Letter}
use Rattle.dead_letters.specs.declared.hand.Hand.TheVariants.{Joined}
use Rattle.dead_letters.specs.Moving.{courier_name, move_of, at_target}

-- its parts are names
abbrev pub is_topic : TopicName → Bool
is_topic name = is_name name.tenant && is_name name.namespace && is_name name.topic

-- couriers of two subscriptions, of one topic or of two, have two names
abbrev pub CouriersDiffer : Type 0
CouriersDiffer =
    (source other : TopicName) (subscription name : List ℕ) → IsTrue (is_topic source) → IsTrue (is_topic other)
    → courier_name source subscription ≡ courier_name other name → (source ≡ other) × (subscription ≡ name)

-- a name that does not begin with `dlq/` is no courier's
abbrev pub CouriersAreApart : Type 0
CouriersAreApart =
    (source : TopicName) (subscription name : List ℕ) → starts_with nat_eq name (codes "dlq/") ≡ false
    → bytes_eq name (courier_name source subscription) ≡ false

-- a letter's copy is published under the letter's ordinal
abbrev pub CopiesBearOrdinals : Type 0
CopiesBearOrdinals =
    (route : Route) (letter : Letter) (producer now : ℕ) → letter.ordinal < 2 ^ 62
    → move_of route (Joined letter producer) now ≡ at_target (Publish producer (pos letter.ordinal) letter.message.body now)
