-- How a subscription is made: the events that this comes to, one after the other, by what each is answered.
use Rattle.std.specs.Prelude.{◌≡◌, ◌⊎◌, ℕ, List, Bool, true, false, MatchBool, Option, Some, None, MatchOption, Result, Ok, Err}
use Rattle.position_core.specs.declared.fault.Fault.{Fault}
use Rattle.position_core.specs.declared.fault.Fault.TheVariants.{NoMemory, SubscriptionBusy}
use Rattle.position_core.specs.declared.flow.Flow.TheVariants.{Window}
use Rattle.position_core.specs.declared.kind.Kind.TheVariants.{Exclusive}
use Rattle.delivery_machine.specs.State.{State}
use Rattle.delivery_machine.specs.Words.{has_member}
use Rattle.delivery_machine.specs.Run.{Answers, Step}
use Rattle.delivery_machine.specs.declared.event.Event.{Event}
use Rattle.delivery_machine.specs.declared.event.Event.TheVariants.{Stats, Subscribe, Seek, Leave, DropSubscription}
use Rattle.delivery_machine.specs.declared.event.Initial.TheVariants.{Earliest}
use Rattle.delivery_machine.specs.declared.event.Target.{Target}
use Rattle.delivery_machine.specs.declared.reply.Reply.{Reply}
use Rattle.delivery_machine.specs.declared.reply.Reply.TheVariants.{Refused, Subscribed, Done}
use Rattle.session_links.specs.declared.creating.Making.{Making}

-- The consumer by which a subscription is made. No message dies at it, so the topic that its dead ones would go to is made of the one
-- name that there is.
abbrev pub joins : List ℕ → Event
joins name = Subscribe name Exclusive 0 (Window 1) 0 0 0 (record { tenant = name; namespace = name; topic = name }) Earliest None

-- why it is not made, by what its statistics were answered: it is there; where they are refused, it is not there, and is made
abbrev pub refusal_by : Result Reply Fault → Option Fault
refusal_by (Ok (Refused fault)) = None
refusal_by (Ok reply) = Some SubscriptionBusy
refusal_by (Err fault) = Some fault

-- the number of the consumer, where it joined
abbrev pub consumer_by : Result Reply Fault → Option ℕ
consumer_by (Ok (Subscribed consumer)) = Some consumer
consumer_by answer = None

abbrev pub is_done : Result Reply Fault → Bool
is_done (Ok Done) = true
is_done answer = false

-- somebody leaves who is there
abbrev pub is_leave : State → Event → Bool
is_leave s (Leave consumer) = has_member s consumer
is_leave s event = false

-- it is the machine's reply, or its want of memory
abbrev pub Hears : State → Event → Reply → State → Type 0
Hears s event reply t = Step s event reply t ⊎ Answers s event reply t

-- the events by which a subscription is made; by the last one it goes
abbrev pub making_of : List ℕ → Target → Making
making_of name target = record { looks = Stats name; joins = joins name; seeks = Seek name target; drops = DropSubscription name }

module _ (Answered : State → Event → Result Reply Fault → State → Type 0) where
  -- The subscription goes on from its target, and its consumer leaves, which is done. It is answered as the seek was: where that was
  -- done the subscription stays, and else it is asked that it be dropped.
  pub record MovesOn (seeks drops : Event) (consumer : ℕ) (s : State) (answer : Result Reply Fault) (t : State) : Type 0 where
    pub sought : State
    pub alone : State
    pub moves : Answered s seeks answer sought
    pub leaves : Answered sought (Leave consumer) (Ok Done) alone
    pub stays : MatchBool (is_done answer) (t ≡ alone) ((gone : Result Reply Fault) × Answered alone drops gone t)

  -- its consumer joins; where it may not, that is the answer
  pub record Makes (joining seeks drops : Event) (s : State) (answer : Result Reply Fault) (t : State) : Type 0 where
    pub joined : Result Reply Fault
    pub made : State
    pub asks : Answered s joining joined made
    pub goes_on : MatchOption (consumer_by joined) ((answer ≡ joined) × (t ≡ made)) (λ consumer. MovesOn seeks drops consumer made answer t)

  -- it is made where it is not there
  pub record Creates (making : Making) (s : State) (answer : Result Reply Fault) (t : State) : Type 0 where
    pub shown : Result Reply Fault
    pub seen : State
    pub looks : Answered s making.looks shown seen
    pub makes : MatchOption (refusal_by shown) (Makes making.joins making.seeks making.drops seen answer t) (λ fault. (answer ≡ Err fault) × (t ≡ seen))

-- the subscription is made where it is not there; or there was no memory for the events, and none was handed over
unfoldable pub MayCreate : (State → Event → Result Reply Fault → State → Type 0) → List ℕ → Target → State → Result Reply Fault → State → Type 0
MayCreate Answered name target s answer t = ((answer ≡ Err NoMemory) × (t ≡ s)) ⊎ Creates Answered (making_of name target) s answer t
