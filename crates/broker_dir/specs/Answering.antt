-- What is answered across a topic's lock: each answer is that of some open topic, whose type says that what it calls durable stands in
-- rows that were committed. No type ties what a lock guards to what is outside, so which topic it is stands in no clause.
use Rattle.std.specs.Prelude.{◌≡◌, ◌⊎◌, ◌+◌, ℕ, List, ⊤, Result, Ok, Err, IfOk, MatchOption}
use Rattle.position_core.specs.declared.fault.Fault.{Fault}
use Rattle.position_core.specs.declared.fault.Fault.TheVariants.{NoMemory, StoreFailed}
use Rattle.delivery_machine.specs.Places.{KeptTopic, snapshot_in}
use Rattle.delivery_machine.specs.Snapshot.{snapshot_of}
use Rattle.delivery_machine.specs.declared.event.Event.{Event}
use Rattle.delivery_machine.specs.declared.event.Target.{Target}
use Rattle.delivery_machine.specs.declared.reply.Reply.{Reply}
use Rattle.delivery_machine.specs.declared.saved.Saved as saved
use Rattle.delivery_machine.specs.declared.topic.Topic as topic
use Rattle.marks.specs.declared.history.Naming as naming
use Rattle.session_links.specs.Creating.{MayCreate}
use Rattle.session_links.specs.Looking.{shown_of}
use Rattle.session_links.specs.declared.request.Request.{Request}
use Rattle.session_links.specs.declared.request.Request.TheVariants.{CreateSubscription, Event as OfEvent, Peek}
use Rattle.broker_parts.specs.Ends.{refusal_at}
use Rattle.broker_dir.specs.Handing.{HandsOn}
use Rattle.broker_dir.specs.declared.inside.Inside.{Inside}

module _ (T J B : Type 0) (asks : topic.Ghosts T) (saves : saved.Ghosts T) (names : naming.Ghosts J) where
  -- a topic was asked just this event, and what it answered is the answer
  pub record IsAnswered (event : Event) (result : Result Reply Fault) : Type 0 where
    pub old : Inside T J B asks saves names
    pub new : Inside T J B asks saves names
    pub name : new.topic.name ≡ old.topic.name
    pub hands_on : HandsOn old.topic.cell.cell.state event result new.topic.cell.cell.state

  -- a topic was asked for the events by which the subscription is made; or it may not be used, and that is the answer
  pub record IsMade (subscription : List ℕ) (target : Target) (result : Result Reply Fault) : Type 0 where
    pub old : Inside T J B asks saves names
    pub new : Inside T J B asks saves names
    pub makes : MatchOption (refusal_at old.stage) (MayCreate HandsOn subscription target old.topic.cell.cell.state result new.topic.cell.cell.state) (λ fault. result ≡ Err fault)

  -- what is shown is so of what a topic keeps
  pub record IsShown (subscription : List ℕ) (count : ℕ) (reply : Reply) : Type 0 where
    pub at : Inside T J B asks saves names
    pub kept : KeptTopic
    pub keeps : snapshot_in kept ≡ snapshot_of at.topic.cell.cell.state
    pub shows : reply ≡ shown_of kept (at.topic.cell.cell.state.gone + at.topic.cell.cell.state.durable) subscription count

  -- what is answered to an event; there was no memory to ask the topic (F1), or it was asked
  abbrev pub IsAsked : Event → Result Reply Fault → Type 0
  IsAsked event result = (result ≡ Err NoMemory) ⊎ IsAnswered event result

  -- what is answered to a request at an open directory
  abbrev pub IsServed : Request → Result Reply Fault → Type 0
  IsServed (OfEvent event) result = IsAsked event result
  IsServed (CreateSubscription subscription target) result = IsMade subscription target result
  IsServed (Peek subscription count) result = IfOk result (IsShown subscription count)
  IsServed request result = ⊤

  -- the same at any; where the store failed all is refused so (F16), and where there is no memory to store what was asked (F1)
  abbrev pub AnswersAt : Request → Result Reply Fault → Type 0
  AnswersAt request result = (result ≡ Err StoreFailed) ⊎ (result ≡ Err NoMemory) ⊎ IsServed request result
