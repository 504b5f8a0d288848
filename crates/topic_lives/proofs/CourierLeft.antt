-- A run of a topic to which one message is moved: it is published under a courier's name, and the courier leaves.
use Rattle.std.proofs.Common.{◌≡◌, List, [], ◌∷◌, Some, None, refl, pos, arith}
use Rattle.std.specs.Prelude.{codes}
use Rattle.std.proofs.lemmas.List.Elements.{All-nil}
use Rattle.position_core.specs.declared.topic_name.TopicName.{TopicName}
use Rattle.position_core.specs.declared.body.Content.{Content}
use Rattle.position_core.specs.declared.message.Entry.{Entry}
use Rattle.delivery_machine.specs.State.{State, Subscription, fresh}
use Rattle.delivery_machine.specs.Producing.{with_producer, with_message}
use Rattle.delivery_machine.specs.Run.{Run}
use Rattle.delivery_machine.specs.Laws.{MayCome}
use Rattle.delivery_machine.specs.declared.event.Event.{Event}
use Rattle.delivery_machine.specs.declared.event.Event.TheVariants.{AddProducer, DropProducer, Publish}
use Rattle.delivery_machine.specs.declared.reply.Reply.{Reply}
use Rattle.delivery_machine.specs.declared.reply.Reply.TheVariants.{ProducerAdded, Published, Done}
use Rattle.machine_laws.proofs.Example.{first}
use Rattle.topic_lives.specs.Laws.{IsLeftByCourier}

module _ (name : TopicName) (body : Content) where
  abbrev message : Entry
  message = record { position = first; producer = codes "dlq/a"; sequence = pos 1; time = 0; body = body }

  abbrev connected : State
  connected = with_producer (fresh name 1) (record { number = 1; name = codes "dlq/a"; base = pos 0 })

  abbrev published : State
  published = with_message connected message

  abbrev deserted : State
  deserted = record published { producers = [] }

  abbrev events : List Event
  events = AddProducer (Some (codes "dlq/a")) (pos 0) ∷ Publish 1 (pos 1) body 0 ∷ DropProducer 1 ∷ []

  abbrev replies : List Reply
  replies = ProducerAdded 1 None (pos 0) ∷ Published first 1 ∷ Done ∷ []

  run : Run (fresh name 1) events replies deserted
  run = (connected, (refl, (codes "dlq/a", None, (refl, refl), (refl, refl))), (published, (refl, (refl, refl)), (deserted, (refl, (refl, refl)), refl)))

pub may_be_left : MayCome IsLeftByCourier
may_be_left name body = (
  events name body,
  replies name body,
  deserted name body,
  run name body,
  (
    record { deserted = (refl, refl); letters = All-nil (λ (sub : Subscription). sub.dead ≡ []); count = omega arith },
    message name body,
    (0, omega arith, refl),
    refl,
    refl,
    refl,
  ),
)
