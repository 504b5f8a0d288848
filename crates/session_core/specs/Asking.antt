-- What a session asks of its own accord in a turn.
use Rattle.std.specs.Prelude.{◌≡◌, ◌⊎◌, ℕ, ◌≤◌, List, [], ◌∷◌, length, map, max, Bool, true, false, Option, Some, None, IsSome, IfSome}
use Rattle.std.specs.Option.{option_or}
use Rattle.delivery_machine.specs.declared.event.Event.{Event}
use Rattle.delivery_machine.specs.declared.event.Event.TheVariants.{Progress, Tick, Dispatch, Collect}
use Rattle.delivery_machine.specs.declared.reply.Reply.{Reply}
use Rattle.delivery_machine.specs.declared.reply.Reply.TheVariants.{Quiet, Idle, Refused, Progress as Progressed, Copies}
use Rattle.session_links.specs.declared.request.Request.TheVariants.{Event as OfEvent}
use Rattle.session_links.specs.Links.{Call}
use Rattle.session_texts.specs.declared.party.Party.{Party}
use Rattle.session_texts.specs.declared.party.Party.TheVariants.{Producer, Consumer, Admin}
use Rattle.session_texts.specs.declared.close.Close.{Close}
use Rattle.session_texts.specs.Outcomes.{own_close}
use Rattle.session_texts.specs.Unsent.{Unsent, collected}

-- whether more of the same may be asked after the reply
abbrev pub leaves_more : Reply → Bool
leaves_more Quiet = false
leaves_more Idle = false
leaves_more (Refused fault) = false
leaves_more reply = true

-- calls of one event, each of which left more to be asked
abbrev pub AllLeftMore : Event → List Call → Type 0
AllLeftMore event [] = Unit {0}
AllLeftMore event (call ∷ before) = (call.request ≡ OfEvent event) × (leaves_more call.reply ≡ true) × AllLeftMore event before

-- at most 64 calls of one event, each but the last of which left more to be asked
abbrev pub IsSeries : Event → List Call → Type 0
IsSeries event [] = Unit {0}
IsSeries event (call ∷ before) = (call.request ≡ OfEvent event) × AllLeftMore event before × (length (call ∷ before) ≤ 64)

-- the series is at its end: the last call left no more, or it is the 64th
abbrev pub IsWhole : List Call → Type 0
IsWhole [] = ⊥
IsWhole (call ∷ before) = (leaves_more call.reply ≡ false) ⊎ (length (call ∷ before) ≡ 64)

-- the close that the last of the calls leads to
abbrev pub close_after : List Call → Option Close
close_after [] = None
close_after (call ∷ before) = own_close call.reply

-- the close that a call leads to, where there is one
abbrev pub close_after_one : Option Call → Option Close
close_after_one None = None
close_after_one (Some call) = own_close call.reply

-- what was asked of the session's own accord: ticks and dispatches, the latest first, and the last call
pub record Asked : Type 0 where
  pub ticks : List Call
  pub dispatches : List Call
  pub last : Option Call

-- nothing was asked
abbrev pub asked_nothing : Asked
asked_nothing = record { ticks = []; dispatches = []; last = None }

-- A consumer's session asks for ticks until nothing is due, then for dispatches until nobody can be served, then for what it
-- was sent itself. A session that ends may have asked for a beginning of this. One that is not free to send more asks for ticks alone:
-- nothing is dispatched to it, and it collects nothing.
pub record ConsumerAsks (consumer : ℕ) (subscription : List ℕ) (now : ℕ) (is_free : Bool) (asked : Asked) : Type 0 where
  pub ticks : IsSeries (Tick subscription now) asked.ticks
  pub dispatches : IsSeries (Dispatch subscription now) asked.dispatches
  pub last : IfSome asked.last (λ call. call.request ≡ OfEvent (Collect consumer))
  -- in this order, and nothing after what closes the session
  pub ticks_first : (asked.dispatches ≡ []) ⊎ (IsWhole asked.ticks × (close_after asked.ticks ≡ None))
  pub dispatches_first : (asked.last ≡ None) ⊎ (IsWhole asked.dispatches × (close_after asked.dispatches ≡ None))
  pub held : is_free ≡ false → (asked.dispatches ≡ []) × (asked.last ≡ None)

-- what the party's session asks, where it is free to send more, or is not
abbrev pub AsksAs : Party → ℕ → Bool → Asked → Type 0
AsksAs (Producer producer first) now is_free asked = (asked.ticks ≡ []) × (asked.dispatches ≡ []) × IfSome asked.last (λ call. call.request ≡ OfEvent Progress)
AsksAs (Consumer consumer subscription) now is_free asked = ConsumerAsks consumer subscription now is_free asked
AsksAs Admin now is_free asked = asked ≡ asked_nothing

-- all that it asks in a turn that goes on; a consumer's asks for dispatches and copies where it is free to send them, and only there
abbrev pub AsksAll : Party → Bool → Asked → Type 0
AsksAll (Producer producer first) is_free asked = IsSome asked.last
AsksAll (Consumer consumer subscription) false asked = IsWhole asked.ticks
AsksAll (Consumer consumer subscription) true asked = IsWhole asked.ticks × IsWhole asked.dispatches × IsSome asked.last
AsksAll Admin is_free asked = Unit {0}

-- the close that the calls lead to
abbrev pub close_of_asked : Asked → Option Close
close_of_asked asked = option_or (close_after asked.ticks) (option_or (close_after asked.dispatches) (close_after_one asked.last))

-- how much is stored, by a reply
abbrev pub durable_in : Reply → ℕ
durable_in (Progressed durable length) = durable
durable_in reply = 0

-- the most that was seen to be stored, with this call
abbrev pub durable_after : Party → ℕ → Option Call → ℕ
durable_after (Producer producer first) durable (Some call) = max durable (durable_in call.reply)
durable_after party durable last = durable

-- what a consumer was sent, by a reply
abbrev pub copies_in : Reply → List Unsent
copies_in (Copies copies) = map collected copies
copies_in reply = []

-- what there is to be sent by the call
abbrev pub copies_of : Party → Option Call → List Unsent
copies_of (Consumer consumer subscription) (Some call) = copies_in call.reply
copies_of party last = []
