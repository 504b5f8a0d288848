-- A run of two messages of one body: they are published and stored, a consumer joins with a window of 2, and both are sent to it.
use Rattle.std.proofs.Common.{◌≡◌, ℕ, List, [], ◌∷◌, Some, None, Option, refl, ap, sym, pos, Bool, true, ◌∙◌, ap₂}
use Rattle.std.specs.Prelude.{codes, is_some, not, ◌+◌, ◌&&◌}
use Rattle.std.specs.Option.{unwrap_or}
use Rattle.std.specs.FinMap as map_of
use Rattle.std.specs.FinMap.{FinMap}
use Rattle.std.specs.FinSet as set
use Rattle.position_core.specs.declared.position.Position.{Position}
use Rattle.position_core.specs.declared.topic_name.TopicName.{TopicName}
use Rattle.position_core.specs.declared.body.Content.{Content}
use Rattle.position_core.specs.declared.message.Entry.{Entry}
use Rattle.position_core.specs.declared.held.Held.{Held}
use Rattle.position_core.specs.declared.flow.Flow.TheVariants.{Window}
use Rattle.position_core.specs.declared.kind.Kind.{Kind}
use Rattle.position_core.specs.declared.kind.Kind.TheVariants.{Exclusive}
use Rattle.position_core.specs.Position.{position_cmp, positions_total}
use Rattle.delivery_machine.specs.Shares.{Shares, no_shares}
use Rattle.delivery_machine.specs.State.{State, Subscription, Member, fresh}
use Rattle.delivery_machine.specs.Words.{count_of, is_waiting, IsEligible}
use Rattle.delivery_machine.specs.Producing.{with_producer, with_message}
use Rattle.delivery_machine.specs.Joining.{with_member, new_subscription}
use Rattle.delivery_machine.specs.Delivering.{sent, given}
use Rattle.delivery_machine.specs.Run.{Run}
use Rattle.delivery_machine.specs.declared.event.Event.{Event}
use Rattle.delivery_machine.specs.declared.event.Event.TheVariants.{AddProducer, Publish, Stored, Subscribe, Dispatch}
use Rattle.delivery_machine.specs.declared.event.Initial.TheVariants.{Earliest}
use Rattle.delivery_machine.specs.declared.reply.Reply.{Reply}
use Rattle.delivery_machine.specs.declared.reply.Reply.TheVariants.{ProducerAdded, Published, Durable, Subscribed, Sent}

abbrev pub Pending : Type 0
Pending = FinMap position_cmp Held

-- each message has a ledger of its own
abbrev pub position_at : ℕ → Position
position_at n = record { ledger = n; entry = 0 }

abbrev pub held_by : ℕ → Held
held_by consumer = record { consumer = consumer; due = None }

abbrev pub dispatch : Event
dispatch = Dispatch (codes "s") 0

-- the first message is pending at a consumer, or the first two
abbrev pub one_held : ℕ → Pending
one_held consumer = map_of.insert map_of.empty (position_at 0) (held_by consumer)

abbrev pub two_held : ℕ → Pending
two_held consumer = map_of.insert (one_held consumer) (position_at 1) (held_by consumer)

pub none-held : (n : ℕ) → map_of.get (map_of.empty {X = Held} {R = position_cmp}) (position_at n) ≡ None
none-held n = map_of.get-empty position_cmp (position_at n)

pub first-of-one : (consumer : ℕ) → map_of.get (one_held consumer) (position_at 0) ≡ Some (held_by consumer)
first-of-one consumer = map_of.get-insert positions_total map_of.empty (position_at 0) (held_by consumer) (position_at 0)

pub second-of-one : (consumer : ℕ) → map_of.get (one_held consumer) (position_at 1) ≡ None
second-of-one consumer = map_of.get-insert positions_total map_of.empty (position_at 0) (held_by consumer) (position_at 1) ∙ none-held 1

pub first-of-two : (consumer : ℕ) → map_of.get (two_held consumer) (position_at 0) ≡ Some (held_by consumer)
first-of-two consumer = map_of.get-insert positions_total (one_held consumer) (position_at 1) (held_by consumer) (position_at 0) ∙ first-of-one consumer

pub second-of-two : (consumer : ℕ) → map_of.get (two_held consumer) (position_at 1) ≡ Some (held_by consumer)
second-of-two consumer = map_of.get-insert positions_total (one_held consumer) (position_at 1) (held_by consumer) (position_at 1)

-- the message at the index, which is 0 for the first
abbrev pub message : Content → ℕ → Entry
message body n = record { position = position_at n; producer = codes "p"; sequence = pos (n + 1); time = 0; body = body }

abbrev pub subscription : Kind → Shares → Pending → Subscription
subscription kind shares pending = record (new_subscription (codes "s") kind None 1 Earliest []) { shares = shares; pending = pending }

-- a message that is pending at nobody waits, as none is acknowledged
pub waits : (kind : Kind) (shares : Shares) (pending : Pending) (body : Content) (n : ℕ) {held : Option Held}
    → map_of.get pending (position_at n) ≡ held → is_waiting (subscription kind shares pending) (message body n) ≡ not (is_some held)
waits kind shares pending body n at =
    ap₂ (λ (b : Bool) (o : Option Held). (not b && true) && not (is_some o)) (set.contains-empty position_cmp (position_at n)) at

-- no message was redelivered
pub uncounted : (kind : Kind) (shares : Shares) (pending : Pending) (n : ℕ) → 0 ≡ count_of (subscription kind shares pending) (position_at n)
uncounted kind shares pending n = sym (ap (λ (o : Option ℕ). unwrap_or o 0) (map_of.get-empty position_cmp (position_at n)))

-- a producer of the name `p` and a subscription of the name `s`
module _ (name : TopicName) (body : Content) where
  abbrev pub member : ℕ → Member
  member number = record { number = number; subscription = codes "s"; level = 0; flow = Window 2; ack_timeout = 0; nack_delay = 0; max_redeliver = 0; dead_topic = name; out = [] }

  abbrev pub connected : State
  connected = with_producer (fresh name 1) (record { number = 1; name = codes "p"; base = pos 0 })

  abbrev pub two_published : State
  two_published = with_message (with_message connected (message body 0)) (message body 1)

  -- ---- in Exclusive

  abbrev joined : State
  joined = with_member (record two_published { durable = 2 }) Exclusive None Earliest (member 1)

  abbrev first_sent : State
  first_sent = sent joined (codes "s") (subscription Exclusive no_shares map_of.empty) (message body 0) (member 1) 0

  abbrev once_given : Member
  once_given = given (record { message = message body 0; count = count_of (subscription Exclusive no_shares map_of.empty) (position_at 0) }) (member 1)

  abbrev pub in_order : State
  in_order = sent first_sent (codes "s") (subscription Exclusive no_shares (one_held 1)) (message body 1) once_given 0

  abbrev pub twice_given : Member
  twice_given = given (record { message = message body 1; count = count_of (subscription Exclusive no_shares (one_held 1)) (position_at 1) }) once_given

  first_may : IsEligible joined (subscription Exclusive no_shares map_of.empty) (message body 0) (member 1)
  first_may = (rw (none-held 0, none-held 1) refl, (rw (waits Exclusive no_shares map_of.empty body 0 (none-held 0)) refl, refl))

  second_may : IsEligible first_sent (subscription Exclusive no_shares (one_held 1)) (message body 1) once_given
  second_may = (
    rw (first-of-one 1, second-of-one 1) refl,
    (
      rw (waits Exclusive no_shares (one_held 1) body 0 (first-of-one 1), waits Exclusive no_shares (one_held 1) body 1 (second-of-one 1)) refl,
      refl,
    ),
  )

  abbrev pub events_in_order : List Event
  events_in_order =
      AddProducer (Some (codes "p")) (pos 0) ∷ Publish 1 (pos 1) body 0 ∷ Publish 1 (pos 2) body 0 ∷ Stored
      ∷ Subscribe (codes "s") Exclusive 0 (Window 2) 0 0 0 name Earliest None ∷ dispatch ∷ dispatch ∷ []

  abbrev pub replies_in_order : List Reply
  replies_in_order =
      ProducerAdded 1 None (pos 0) ∷ Published (position_at 0) 1 ∷ Published (position_at 1) 2 ∷ Durable 2 ∷ Subscribed 1 ∷ Sent 1 (position_at 0) 0 ∷ Sent 1 (position_at 1) 0 ∷ []

  pub run_in_order : Run (fresh name 1) events_in_order replies_in_order in_order
  run_in_order = (
    connected,
    (refl, (codes "p", None, (refl, refl), (refl, refl))),
    (
      with_message connected (message body 0),
      (refl, (refl, refl)),
      (
        two_published,
        (refl, (refl, refl)),
        (
          record two_published { durable = 2 },
          (refl, (refl, refl)),
          (
            joined,
            (refl, (refl, refl, tt)),
            (
              first_sent,
              (refl, (message body 0, member 1, first_may, refl, refl, uncounted Exclusive no_shares map_of.empty 0, refl)),
              (in_order, (refl, (message body 1, once_given, second_may, refl, refl, uncounted Exclusive no_shares (one_held 1) 1, refl)), refl),
            ),
          ),
        ),
      ),
    ),
  )
