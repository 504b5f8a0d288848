-- What comes of a topic's reply.
use Rattle.std.specs.Prelude.{ℕ, ℤ, List, Bool, true, false, Option, Some, None, Result, Ok, Err, if◌then◌else◌}
use Rattle.position_core.specs.declared.position.Position.{Position}
use Rattle.position_core.specs.declared.fault.Fault.{Fault}
use Rattle.position_core.specs.declared.fault.Fault.TheVariants.{NoMemory, NoSuchMessage, NotPending, PushMode, JournalFull}
use Rattle.delivery_machine.specs.declared.event.Event.{Event}
use Rattle.delivery_machine.specs.declared.event.Event.TheVariants.{DropProducer, Leave}
use Rattle.delivery_machine.specs.declared.reply.Reply.{Reply}
use Rattle.delivery_machine.specs.declared.reply.Reply.TheVariants.{Published, Duplicate, Done, Copies, Stats, Refused}
use Rattle.wire_json.specs.declared.answers.SendError.{SendError}
use Rattle.wire_json.specs.Answers.{of_fault}
use Rattle.session_texts.specs.declared.party.Party.{Party}
use Rattle.session_texts.specs.declared.party.Party.TheVariants.{Producer, Consumer, Admin}
use Rattle.session_texts.specs.declared.close.Close.{Close}
use Rattle.session_texts.specs.declared.outcome.Outcome.{Outcome}
use Rattle.session_texts.specs.declared.outcome.Outcome.TheVariants.{Answers, Passes, Closes}
use Rattle.session_texts.specs.declared.answer.Answer.{Answer}
use Rattle.session_texts.specs.declared.answer.Answer.TheVariants.{Accepted, Refused as Refusing, Administered, Shown, Overview}
use Rattle.session_texts.specs.Asking.{refusing}

-- a duplicate is answered with the position of no message
abbrev pub no_message : Position
no_message = record { ledger = 18446744073709551615; entry = 18446744073709551615 }

-- a refused publish is answered with its error, or closes the session where it has none
abbrev pub refused_publish : Option (List ℕ) → Fault → Option SendError → Outcome
refused_publish context fault None = Closes (refusing fault)
refused_publish context fault (Some error) = Answers (Refusing context error)

-- what comes of the reply to a publish
abbrev pub publish_outcome : Option (List ℕ) → Reply → Outcome
publish_outcome context (Published position length) = Answers (Accepted context position length)
publish_outcome context (Duplicate length) = Answers (Accepted context no_message length)
publish_outcome context (Refused fault) = refused_publish context fault (of_fault fault)
publish_outcome context reply = Passes

-- commands that come late are usual
abbrev pub is_late : Fault → Bool
is_late NoSuchMessage = true
is_late NotPending = true
is_late PushMode = true
is_late fault = false

-- what comes of the reply to a consumer's command
abbrev pub command_outcome : Reply → Outcome
command_outcome (Refused fault) = if is_late fault then Passes else Closes (refusing fault)
command_outcome reply = Passes

-- what comes of a reply that shows an administrator no messages
abbrev pub told_outcome : Reply → Outcome
told_outcome (Refused JournalFull) = Closes (refusing JournalFull)
told_outcome (Refused fault) = Answers (Administered (Refused fault))
told_outcome Done = Answers (Administered Done)
told_outcome (Stats kind members mark_delete acknowledged live pending dead gone oldest) = Answers (Administered (Stats kind members mark_delete acknowledged live pending dead gone oldest))
told_outcome reply = Passes

-- what comes of the reply to an administrator's command: messages are shown
abbrev pub admin_outcome : Reply → Outcome
admin_outcome (Copies messages) = Answers (Shown messages)
admin_outcome reply = told_outcome reply

-- what comes of the reply to what a text asked for
abbrev pub outcome_of : Party → Option (List ℕ) → Reply → Outcome
outcome_of (Producer producer first) context reply = publish_outcome context reply
outcome_of (Consumer consumer subscription) context reply = command_outcome reply
outcome_of Admin context reply = admin_outcome reply

-- what answers a text that asked what is seen of the broker: that, or why nothing is seen
abbrev pub answer_of_seen : Result (List ℕ) Fault → Answer
answer_of_seen (Ok seen) = Overview seen
answer_of_seen (Err fault) = Administered (Refused fault)

-- a refusal of what the session asks of its own accord closes it, but for want of memory
abbrev pub own_close : Reply → Option Close
own_close (Refused NoMemory) = None
own_close (Refused fault) = Some (refusing fault)
own_close reply = None

-- the event with which a session ends
abbrev pub farewell_of : Party → Option Event
farewell_of (Producer producer first) = Some (DropProducer producer)
farewell_of (Consumer consumer subscription) = Some (Leave consumer)
farewell_of Admin = None

-- the number of the first publish
abbrev pub first_of : Party → Option ℤ
first_of (Producer producer first) = first
first_of party = None
