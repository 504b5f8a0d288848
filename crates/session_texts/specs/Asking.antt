-- What a text asks for, by whose session it came to.
use Rattle.std.specs.Prelude.{ℕ, ℤ, List, Option, Some, None, unwrap_or, Result, Ok, Err}
use Rattle.position_core.specs.declared.fault.Fault.{Fault}
use Rattle.position_core.specs.declared.fault.Fault.TheVariants.{TooMany}
use Rattle.position_core.specs.declared.body.Content.{Content}
use Rattle.delivery_machine.specs.declared.event.Event.{Event}
use Rattle.delivery_machine.specs.declared.event.Event.TheVariants.{Publish}
use Rattle.session_links.specs.declared.request.Request.{Request}
use Rattle.session_links.specs.declared.request.Request.TheVariants.{Event as OfEvent}
use Rattle.wire_json.specs.declared.commands.Command.{Command}
use Rattle.wire_json.specs.declared.admins.AdminCommand.{AdminCommand}
use Rattle.wire_json.specs.declared.answers.SendError.{SendError}
use Rattle.wire_json.specs.declared.answers.SendError.TheVariants.{Unknown}
use Rattle.wire_json.specs.Publishes.{publish_of}
use Rattle.wire_json.specs.Commands.{command_of}
use Rattle.wire_json.specs.Admins.{admin_of}
use Rattle.wire_json.specs.Answers.{of_fault}
use Rattle.session_texts.specs.declared.party.Party.{Party}
use Rattle.session_texts.specs.declared.party.Party.TheVariants.{Producer, Consumer, Admin}
use Rattle.session_texts.specs.declared.close.Close.{Close}
use Rattle.session_texts.specs.declared.asking.Asking.{Asking}
use Rattle.session_texts.specs.declared.asking.Asking.TheVariants.{Asks, Shows, Answers, Closes}
use Rattle.session_texts.specs.declared.answer.Answer.TheVariants.{Refused, EndOfTopic}
use Rattle.session_texts.specs.Requests.{event_of_command, request_of_admin}

-- a text can't be read
abbrev pub unreadable_close : Fault → Close
unreadable_close fault = record { code = 4003; fault = fault }

-- the topic refused, or the session is at an end
abbrev pub refusing : Fault → Close
refusing fault = record { code = 4008; fault = fault }

-- the error that answers a publish that can't be read
abbrev pub error_of : Fault → SendError
error_of fault = unwrap_or (of_fault fault) Unknown

-- a content is published under the next number, where one is left
abbrev pub publishes : ℕ → ℕ → Option ℤ → Option (List ℕ) → Content → Asking
publishes producer now None context content = Closes (refusing TooMany)
publishes producer now (Some number) context content = Asks (OfEvent (Publish producer number content now)) context

-- what a producer's text says is published, or answered with an error
abbrev pub asks_publish : ℕ → ℕ → Option ℤ → Option (List ℕ) → Result Content Fault → Asking
asks_publish producer now next context (Err fault) = Answers (Refused context (error_of fault))
asks_publish producer now next context (Ok content) = publishes producer now next context content

-- a command without an event asks whether the topic has an end
abbrev pub asks_event : Option Event → Asking
asks_event None = Answers EndOfTopic
asks_event (Some event) = Asks (OfEvent event) None

-- a consumer's text is a command, or closes the session
abbrev pub asks_command : ℕ → ℕ → Result Command Fault → Asking
asks_command consumer now (Err fault) = Closes (unreadable_close fault)
asks_command consumer now (Ok command) = asks_event (event_of_command consumer now command)

-- a command without a request asks what is seen of the broker
abbrev pub asks_request : Option Request → Asking
asks_request None = Shows
asks_request (Some request) = Asks request None

-- an administrator's text is a command, or closes the session
abbrev pub asks_admin : Result AdminCommand Fault → Asking
asks_admin (Err fault) = Closes (unreadable_close fault)
asks_admin (Ok command) = asks_request (request_of_admin command)

-- what the text asks for, of the party, at the moment, with the next number
abbrev pub asks : Party → ℕ → Option ℤ → List ℕ → Asking
asks (Producer producer first) now next text = asks_publish producer now next (publish_of text).context (publish_of text).content
asks (Consumer consumer subscription) now next text = asks_command consumer now (command_of text)
asks Admin now next text = asks_admin (admin_of text)
