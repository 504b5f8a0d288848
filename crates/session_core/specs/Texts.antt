-- Which texts a turn takes, what each leads to, and what answers it.
use Rattle.std.specs.Prelude.{◌≡◌, ◌⊎◌, ℕ, ℤ, ◌<◌, List, [], ◌∷◌, ◌++◌, count_by, Option, Some, None, IsSome, is_some, Result, if◌then◌else◌}
use Rattle.position_core.specs.declared.fault.Fault.{Fault}
use Rattle.position_core.specs.declared.fault.Fault.TheVariants.{NoMemory}
use Rattle.delivery_machine.specs.declared.reply.Reply.{Reply}
use Rattle.session_links.specs.Links.{Call}
use Rattle.session_texts.specs.declared.party.Party.{Party}
use Rattle.session_texts.specs.declared.close.Close.{Close}
use Rattle.session_texts.specs.declared.asking.Asking.{Asking}
use Rattle.session_texts.specs.declared.asking.Asking.TheVariants.{Asks, Shows, Answers, Closes}
use Rattle.session_texts.specs.declared.outcome.Outcome.{Outcome}
use Rattle.session_texts.specs.declared.outcome.Outcome.TheVariants.{Answers as Answering, Closes as Closing}
use Rattle.session_texts.specs.Numbers.{number_after}
use Rattle.session_texts.specs.Asking.{asks, refusing}
use Rattle.session_texts.specs.Outcomes.{answer_of_seen, outcome_of}
use Rattle.session_texts.specs.Unsent.{Unsent, answering, is_answer}
use Rattle.session_core.specs.Turns.{Taken}

-- each publish takes the next number, whatever it is answered
abbrev pub number_after_call : Option ℤ → Option Call → Option ℤ
number_after_call (Some number) (Some call) = number_after number
number_after_call next call = next

-- the next number after the texts
abbrev pub next_after : Option ℤ → List Taken → Option ℤ
next_after first [] = first
next_after first (taken ∷ before) = number_after_call (next_after first before) taken.call

-- the close that an outcome is
abbrev pub close_in : Outcome → Option Close
close_in (Closing close) = Some close
close_in outcome = None

-- what it is that answers a text, by what came of its request
abbrev pub answer_in : Outcome → List Unsent
answer_in (Answering answer) = answering answer ∷ []
answer_in outcome = []

-- a text is taken as it asks: its request is called, or none is; the broker is looked at where it asks for that, and nowhere else; and it
-- closes the session where it or its reply does
abbrev pub IsTakenAs : Party → Taken → Asking → Type 0
IsTakenAs party taken (Asks request context) =
    (reply : Reply) × (taken.call ≡ Some (record { request = request; reply = reply })) × (taken.shown ≡ None) × (taken.close ≡ close_in (outcome_of party context reply))
IsTakenAs party taken Shows = (taken.call ≡ None) × IsSome taken.shown × (taken.close ≡ None)
IsTakenAs party taken (Answers answer) = (taken.call ≡ None) × (taken.shown ≡ None) × (taken.close ≡ None)
IsTakenAs party taken (Closes close) = (taken.call ≡ None) × (taken.shown ≡ None) × (taken.close ≡ Some close)

-- there was no memory to read it
abbrev pub IsUnread : Taken → Type 0
IsUnread taken = (taken.call ≡ None) × (taken.shown ≡ None) × (taken.close ≡ Some (refusing NoMemory))

-- the close of the last text
abbrev pub closed_by : List Taken → Option Close
closed_by [] = None
closed_by (taken ∷ before) = taken.close

-- each text is taken as it asks, with the number that is next then; none comes after one that closes the session
abbrev pub AreTaken : Party → ℕ → Option ℤ → List Taken → Type 0
AreTaken party now first [] = Unit {0}
AreTaken party now first (taken ∷ before) =
    AreTaken party now first before × (closed_by before ≡ None)
    × (IsUnread taken ⊎ IsTakenAs party taken (asks party now (next_after first before) taken.text))

-- what answers a call
abbrev pub answer_to_call : Party → Option (List ℕ) → Option Call → List Unsent
answer_to_call party context None = []
answer_to_call party context (Some call) = answer_in (outcome_of party context call.reply)

-- what answers what was seen of the broker
abbrev pub answer_to_seen : Option (Result (List ℕ) Fault) → List Unsent
answer_to_seen None = []
answer_to_seen (Some seen) = answering (answer_of_seen seen) ∷ []

-- what answers a text by what it asks
abbrev pub answer_as : Party → Option Call → Option (Result (List ℕ) Fault) → Asking → List Unsent
answer_as party call shown (Asks request context) = answer_to_call party context call
answer_as party call shown Shows = answer_to_seen shown
answer_as party call shown (Answers answer) = answering answer ∷ []
answer_as party call shown (Closes close) = []

-- what answers a text; one that closes the session is not answered
abbrev pub answer_to : Party → ℕ → Option ℤ → Taken → List Unsent
answer_to party now next taken = if is_some taken.close then [] else answer_as party taken.call taken.shown (asks party now next taken.text)

-- what there is to be sent, and the answers to the texts
abbrev pub answered : Party → ℕ → Option ℤ → List Unsent → List Taken → List Unsent
answered party now first all [] = all
answered party now first all (taken ∷ before) = answered party now first all before ++ answer_to party now (next_after first before) taken

-- fewer than 1,000 texts are not answered yet
abbrev pub IsRoomy : List Unsent → Type 0
IsRoomy left = count_by is_answer left < 1000

-- so it was before each of the texts
abbrev pub AreFew : Party → ℕ → Option ℤ → List Unsent → List Taken → Type 0
AreFew party now first all [] = Unit {0}
AreFew party now first all (taken ∷ before) = AreFew party now first all before × IsRoomy (answered party now first all before)
