-- Two lives of a topic: a message is sent and acknowledged, all leave, the topic is deleted and made again, and a message is sent once more.
use Rattle.std.proofs.Common.{◌≡◌, ℕ, List, [], ◌∷◌, Some, None, Option, refl, ap, sym, pos, Bool, true, arith, ◌∙◌, ap₂}
use Rattle.std.specs.Prelude.{codes, is_some, not, cond, ◌+◌, ◌&&◌, ◌||◌}
use Rattle.std.specs.Option.{unwrap_or}
use Rattle.std.specs.FinMap as map_of
use Rattle.std.specs.FinSet as set
use Rattle.std.proofs.lemmas.List.Elements.{All-nil, All-cons}
use Rattle.position_core.specs.declared.position.Position.{Position}
use Rattle.position_core.specs.declared.topic_name.TopicName.{TopicName}
use Rattle.position_core.specs.declared.body.Content.{Content}
use Rattle.position_core.specs.declared.message.Entry.{Entry}
use Rattle.position_core.specs.declared.held.Held.{Held}
use Rattle.position_core.specs.declared.flow.Flow.TheVariants.{Window}
use Rattle.position_core.specs.declared.kind.Kind.TheVariants.{Exclusive}
use Rattle.position_core.specs.Position.{position_cmp, positions_total}
use Rattle.position_core.specs.Flow.{flow_has_room}
use Rattle.delivery_machine.specs.State.{State, Subscription, Member, fresh}
use Rattle.delivery_machine.specs.Words.{count_of, is_held_by, is_waiting, has_room, IsEligible}
use Rattle.delivery_machine.specs.Producing.{with_producer, with_message}
use Rattle.delivery_machine.specs.Joining.{with_member, without_member, new_subscription}
use Rattle.delivery_machine.specs.Acknowledging.{with_acknowledged}
use Rattle.delivery_machine.specs.Delivering.{sent}
use Rattle.delivery_machine.specs.Run.{Run, Answers}
use Rattle.delivery_machine.specs.declared.event.Event.{Event}
use Rattle.delivery_machine.specs.declared.event.Event.TheVariants.{DropProducer, Leave, Ack}
use Rattle.delivery_machine.specs.declared.event.Initial.TheVariants.{Earliest}
use Rattle.delivery_machine.specs.declared.reply.Reply.{Reply}
use Rattle.delivery_machine.specs.declared.reply.Reply.TheVariants.{ProducerAdded, Published, Durable, Subscribed, Sent, Done}
use Rattle.machine_laws.proofs.Example as one
use Rattle.topic_lives.specs.Deleting.{IsDeletable, made_again}
use Rattle.topic_lives.specs.Lives.{Deed, Lives}
use Rattle.topic_lives.specs.Lives.Deed.{asked}
use Rattle.topic_lives.specs.Laws.{MayBeSentInBothLives}

-- ---- what is asked

abbrev deeds_of : List Event → List Reply → List Deed
deeds_of (event ∷ events) (reply ∷ replies) = asked event reply ∷ deeds_of events replies
deeds_of events replies = []

run_lives : (s : State) (events : List Event) (replies : List Reply) (t : State) → Run s events replies t → Lives s (deeds_of events replies) t
run_lives s [] [] t run = run
run_lives s (event ∷ events) (reply ∷ replies) t run = (run.0, run.1, run_lives run.0 events replies t run.2)
run_lives s [] (reply ∷ replies) t run = absurd run
run_lives s (event ∷ events) [] t run = absurd run

-- the consumer acknowledges the message, and nobody stays
abbrev ending : List Event
ending = one.dispatch ∷ Ack 1 one.first ∷ Leave 1 ∷ DropProducer 1 ∷ []

abbrev ended : List Reply
ended = one.to_one ∷ Done ∷ Done ∷ Done ∷ []

-- where the first message of the second life stands
abbrev second : Position
second = record { ledger = 1; entry = 0 }

abbrev answered : List Reply
answered = ProducerAdded 1 None (pos 0) ∷ Published second 2 ∷ Durable 2 ∷ Subscribed 1 ∷ Sent 1 second 0 ∷ []

-- the consumer has acknowledged the first message
has : set.contains (set.union (set.empty {R = position_cmp}) (set.from_list (one.first ∷ []))) one.first ≡ true
has =
    set.contains-union positions_total set.empty (set.from_list (one.first ∷ [])) one.first
    ∙ ap (λ b. b || set.contains (set.from_list {R = position_cmp} (one.first ∷ [])) one.first) (set.contains-empty position_cmp one.first)
    ∙ set.contains-from_list positions_total (one.first ∷ []) one.first

module _ (name : TopicName) (body : Content) where
  -- ---- the first life

  abbrev acknowledged : State
  acknowledged = with_acknowledged (one.done name body Exclusive (Window 1)) (codes "s") (one.first ∷ [])

  abbrev left : State
  left = without_member acknowledged 1 (codes "s")

  abbrev deserted : State
  deserted = record left { producers = [] }

  first_life : Run (fresh name 1) (one.joins name body Exclusive (Window 1) ending) (one.answered ended) deserted
  first_life = one.run name body Exclusive (Window 1) ending ended deserted (
    one.done name body Exclusive (Window 1),
    one.sends_in_order name body (Window 1) refl,
    (acknowledged, (refl, (refl, refl)), (left, (refl, (refl, refl)), (deserted, (refl, (refl, refl)), refl))),
  )

  deletable : IsDeletable deserted
  deletable = record { deserted = (refl, refl); letters = All-cons (λ (sub : Subscription). sub.dead ≡ []) _ [] refl (All-nil (λ (sub : Subscription). sub.dead ≡ [])); count = omega arith }

  -- ---- the second life

  abbrev message : Entry
  message = record { position = second; producer = codes "p"; sequence = pos 1; time = 0; body = body }

  abbrev member : Member
  member = one.member name body (Window 1)

  abbrev subscription : Subscription
  subscription = new_subscription (codes "s") Exclusive None 1 Earliest (message ∷ [])

  abbrev connected : State
  connected = with_producer (made_again deserted) (record { number = 1; name = codes "p"; base = pos 0 })

  abbrev published : State
  published = with_message connected message

  abbrev stored : State
  stored = record published { durable = 1 }

  abbrev joined : State
  joined = with_member stored Exclusive None Earliest member

  abbrev done : State
  done = sent joined (codes "s") subscription message member 0

  nothing : map_of.get (map_of.empty {X = Held} {R = position_cmp}) second ≡ None
  nothing = map_of.get-empty position_cmp second

  uncounted : 0 ≡ count_of subscription second
  uncounted = sym (ap (λ (o : Option ℕ). unwrap_or o 0) (map_of.get-empty position_cmp second))

  waits : is_waiting subscription message ≡ true
  waits = ap₂ (λ (b : Bool) (o : Option Held). (not b && true) && not (is_some o)) (set.contains-empty position_cmp second) nothing

  room : has_room joined subscription member ≡ true
  room = ap (λ o. flow_has_room (Window 1) (0 + cond {A = ℕ} (is_held_by 1 o) 1 0)) nothing

  eligible : IsEligible joined subscription message member
  eligible = (room, (ap (λ b. cond b (Some message) None) waits, refl))

  sends : Answers joined one.dispatch (Sent 1 second 0) done
  sends = (refl, (message, member, eligible, refl, refl, uncounted, refl))

  second_life : Run (made_again deserted) (one.joins name body Exclusive (Window 1) (one.dispatch ∷ [])) answered done
  second_life = (
    connected,
    (refl, (codes "p", None, (refl, refl), (refl, refl))),
    (published, (refl, (refl, refl)), (stored, (refl, (refl, refl)), (joined, (refl, (refl, refl, tt)), (done, sends, refl)))),
  )

pub may_be_sent : MayBeSentInBothLives
may_be_sent name body =
    let first = deeds_of (one.joins name body Exclusive (Window 1) ending) (one.answered ended) in
    let next = deeds_of (one.joins name body Exclusive (Window 1) (one.dispatch ∷ [])) answered in (
      first,
      deserted name body,
      next,
      done name body,
      run_lives (fresh name 1) (one.joins name body Exclusive (Window 1) ending) (one.answered ended) (deserted name body) (first_life name body),
      (
        made_again (deserted name body),
        (deletable name body, refl),
        run_lives (made_again (deserted name body)) (one.joins name body Exclusive (Window 1) (one.dispatch ∷ [])) answered (done name body) (second_life name body),
      ),
      (codes "s", one.message name body, message name body, (0, omega arith, refl), (0, omega arith, refl), refl, refl, refl, has, refl, refl),
    )
