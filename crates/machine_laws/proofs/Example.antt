-- A run of one message: it is published and stored, a consumer joins, and it is sent to that consumer.
use Rattle.std.proofs.Common.{◌≡◌, ℕ, List, [], ◌∷◌, Some, None, Option, refl, ap, sym, pos, Bool, true, arith, ◌∙◌, ap₂, subst, ◌≤◌, Contains}
use Rattle.std.specs.Prelude.{codes, is_some, not, cond, ◌+◌, ◌&&◌}
use Rattle.std.specs.Option.{unwrap_or}
use Rattle.std.specs.FinMap as map_of
use Rattle.std.specs.FinSet as set
use Rattle.std.proofs.lemmas.List.Elements.{All-nil, All-cons, All-same}
use Rattle.position_core.specs.declared.position.Position.{Position}
use Rattle.position_core.specs.declared.topic_name.TopicName.{TopicName}
use Rattle.position_core.specs.declared.body.Content.{Content}
use Rattle.position_core.specs.declared.message.Entry.{Entry}
use Rattle.position_core.specs.declared.held.Held.{Held}
use Rattle.position_core.specs.declared.flow.Flow.{Flow}
use Rattle.position_core.specs.declared.kind.Kind.{Kind}
use Rattle.position_core.specs.declared.kind.Kind.TheVariants.{Exclusive, Failover, Shared, KeyShared}
use Rattle.position_core.specs.Position.{position_cmp, positions_total}
use Rattle.position_core.specs.Flow.{begun, flow_has_room}
use Rattle.delivery_machine.specs.State.{State, Subscription, Member, fresh}
use Rattle.delivery_machine.specs.Words.{with_room, count_of, is_held_by, is_waiting, has_room, IsEligible}
use Rattle.delivery_machine.specs.Producing.{with_producer, with_message}
use Rattle.delivery_machine.specs.Joining.{with_member, new_subscription}
use Rattle.delivery_machine.specs.Delivering.{sent}
use Rattle.delivery_machine.specs.Run.{Run, Answers}
use Rattle.delivery_machine.specs.declared.event.Event.{Event}
use Rattle.delivery_machine.specs.declared.event.Event.TheVariants.{AddProducer, Publish, Stored, Subscribe, Dispatch}
use Rattle.delivery_machine.specs.declared.event.Initial.TheVariants.{Earliest}
use Rattle.delivery_machine.specs.declared.reply.Reply.{Reply}
use Rattle.delivery_machine.specs.declared.reply.Reply.TheVariants.{ProducerAdded, Published, Durable, Subscribed, Sent}

abbrev pub first : Position
first = record { ledger = 0; entry = 0 }

-- what the message is pending under
abbrev pub holder : Held
holder = record { consumer = 1; due = None }

-- nothing is pending yet
pub nothing : map_of.get (map_of.empty {X = Held} {R = position_cmp}) first ≡ None
nothing = map_of.get-empty position_cmp first

-- the message is pending
pub pending : map_of.get (map_of.insert (map_of.empty {X = Held} {R = position_cmp}) first holder) first ≡ Some holder
pending = map_of.get-insert positions_total map_of.empty first holder first

abbrev pub dispatch : Event
dispatch = Dispatch (codes "s") 0

abbrev pub to_one : Reply
to_one = Sent 1 first 0

abbrev pub answered : List Reply → List Reply
answered replies = ProducerAdded 1 None (pos 0) ∷ Published first 1 ∷ Durable 1 ∷ Subscribed 1 ∷ replies

-- a producer of the name `p` and a subscription of the name `s`
module _ (name : TopicName) (body : Content) where
  abbrev pub message : Entry
  message = record { position = first; producer = codes "p"; sequence = pos 1; time = 0; body = body }

  abbrev pub member : Flow → Member
  member flow = record { number = 1; subscription = codes "s"; level = 0; flow = flow; ack_timeout = 0; nack_delay = 0; max_redeliver = 0; dead_topic = name; out = [] }

  abbrev pub subscription : Kind → Subscription
  subscription kind = new_subscription (codes "s") kind None 1 Earliest (message ∷ [])

  abbrev connected : State
  connected = with_producer (fresh name 1) (record { number = 1; name = codes "p"; base = pos 0 })

  abbrev published : State
  published = with_message connected message

  abbrev stored : State
  stored = record published { durable = 1 }

  -- the consumer has joined, and has the flow
  abbrev pub joined : Kind → Flow → State
  joined kind flow = with_member stored kind None Earliest (member flow)

  -- the message is sent to it
  abbrev pub done : Kind → Flow → State
  done kind flow = sent (joined kind flow) (codes "s") (subscription kind) message (member flow) 0

  -- ---- the message may be sent

  -- it was never redelivered
  uncounted : 0 ≡ count_of (subscription Exclusive) first
  uncounted = sym (ap (λ (o : Option ℕ). unwrap_or o 0) (map_of.get-empty position_cmp first))

  waits : is_waiting (subscription Exclusive) message ≡ true
  waits = ap₂ (λ (b : Bool) (o : Option Held). (not b && true) && not (is_some o)) (set.contains-empty position_cmp first) nothing

  room : (kind : Kind) (flow : Flow) → flow_has_room flow 0 ≡ true → has_room (joined kind flow) (subscription kind) (member flow) ≡ true
  room kind flow free = ap (λ o. flow_has_room flow (0 + cond {A = ℕ} (is_held_by 1 o) 1 0)) nothing ∙ free

  in_order : (flow : Flow) → flow_has_room flow 0 ≡ true → IsEligible (joined Exclusive flow) (subscription Exclusive) message (member flow)
  in_order flow free = (room Exclusive flow free, (ap (λ b. cond b (Some message) None) waits, refl))

  -- it is the only member, and has room
  alone : (flow : Flow) → flow_has_room flow 0 ≡ true → with_room (joined Shared flow) (subscription Shared) ≡ member flow ∷ []
  alone flow free = ap (λ b. cond b (member flow ∷ []) []) (room Shared flow free)

  at_best_level : (flow : Flow) → flow_has_room flow 0 ≡ true → IsEligible (joined Shared flow) (subscription Shared) message (member flow)
  at_best_level flow free = (
    room Shared flow free,
    (
      ap (λ b. cond b (Some message) None) waits,
      subst (λ (ms : List Member). Contains ms (member flow)) (sym (alone flow free)) (0, omega arith, refl),
      All-same (λ other. (member flow).level ≤ other.level) (with_room (joined Shared flow) (subscription Shared)) (member flow ∷ []) (alone flow free)
          (All-cons (λ other. (member flow).level ≤ other.level) (member flow) [] (omega arith) (All-nil (λ other. (member flow).level ≤ other.level))),
    ),
  )

  -- ---- the run

  pub sends_in_order : (flow : Flow) → flow_has_room flow 0 ≡ true → Answers (joined Exclusive flow) dispatch to_one (done Exclusive flow)
  sends_in_order flow free = (refl, (message, member flow, in_order flow free, refl, refl, uncounted, refl))

  pub sends_at_best_level : (flow : Flow) → flow_has_room flow 0 ≡ true → Answers (joined Shared flow) dispatch to_one (done Shared flow)
  sends_at_best_level flow free = (refl, (message, member flow, at_best_level flow free, refl, refl, uncounted, refl))

  -- the consumer joins, and then come the events
  abbrev pub joins : Kind → Flow → List Event → List Event
  joins kind flow events =
      AddProducer (Some (codes "p")) (pos 0) ∷ Publish 1 (pos 1) body 0 ∷ Stored ∷ Subscribe (codes "s") kind 0 flow 0 0 0 name Earliest None ∷ events

  subscribes : (kind : Kind) (flow : Flow) → Answers stored (Subscribe (codes "s") kind 0 flow 0 0 0 name Earliest None) (Subscribed 1) (joined kind (begun flow))
  subscribes Exclusive flow = (refl, (refl, refl, tt))
  subscribes Failover flow = (refl, (refl, refl, tt))
  subscribes Shared flow = (refl, (refl, refl, tt))
  subscribes KeyShared flow = (refl, (refl, refl, tt))

  pub run : (kind : Kind) (flow : Flow) (events : List Event) (replies : List Reply) (t : State) → Run (joined kind (begun flow)) events replies t → Run (fresh name 1) (joins kind flow events) (answered replies) t
  run kind flow events replies t rest = (
    connected,
    (refl, (codes "p", None, (refl, refl), (refl, refl))),
    (
      published,
      (refl, (refl, refl)),
      (
        stored,
        (refl, (refl, refl)),
        (joined kind (begun flow), subscribes kind flow, rest),
      ),
    ),
  )
