-- What a replay does: it answers the lines that it reads by a run of the delivery machine, and writes the answers.
use Rattle.std.specs.Prelude.{◌≡◌, ℕ, ◌+◌, ◌<◌, ◌≤◌, List, [], ◌∷◌, ◌++◌, ◌⊎◌, length, drop, codes, Option}
use Rattle.std.specs.Io.KnownBytes.{Appends, Consumes, IsAtEnd}
use Rattle.std.specs.List.{flat_map}
use Rattle.std.specs.Fmt.{decimal}
use Rattle.std.specs.declared.result.Result.{Result}
use Rattle.std.specs.declared.result.Result.TheVariants.{Ok, Err}
use Rattle.position_core.specs.declared.topic_name.TopicName.{TopicName}
use Rattle.position_core.specs.declared.fault.Fault.TheVariants.{BadId, NoMemory}
use Rattle.delivery_machine.specs.Snapshot.{restarted}
use Rattle.delivery_machine.specs.Run.{Answers}
use Rattle.delivery_machine.specs.declared.event.Event.{Event}
use Rattle.delivery_machine.specs.declared.event.Event.TheVariants.{Stored}
use Rattle.delivery_machine.specs.declared.reply.Reply.{Reply}
use Rattle.topic_restart.specs.Standing.{Standing, stored_by}
use Rattle.replay_core.specs.Lines.{lines_of, ends_in}
use Rattle.replay_lines.specs.Grammar.{IsLine, IsBadLine, longest_line}
use Rattle.replay_core.specs.Printing.{reply_text, refused_text, restarted_text}
use Rattle.replay_lines.specs.declared.reading.Line.TheVariants as lines
use Rattle.replay_core.specs.declared.stop.Stop.{Stop}
use Rattle.replay_core.specs.declared.stop.Stop.TheVariants.{BadLine, Read, Write, Memory}

-- how a line was answered: as an event by its reply; by the ledger in which a topic goes on from what is stored; as one for
-- which there was no room; or as one with a bad id
pub data Answer : Type 0 where
  replied : Event → Reply → Answer
  gone_on : ℕ → Answer
  no_room : Answer
  bad_id : Answer

-- the line of the answer, with its end
abbrev pub answer_text : Answer → List ℕ
answer_text (replied event reply) = reply_text event reply ++ 10 ∷ []
answer_text (gone_on ledger) = restarted_text ledger ++ 10 ∷ []
answer_text no_room = refused_text NoMemory ++ 10 ∷ []
answer_text bad_id = refused_text BadId ++ 10 ∷ []

-- the answer to the event; only what is to be stored finds no room
abbrev pub IsAnswerTo : Event → Answer → Type 0
IsAnswerTo event (replied other reply) = other ≡ event
IsAnswerTo event (gone_on ledger) = ⊥
IsAnswerTo event no_room = event ≡ Stored
IsAnswerTo event bad_id = ⊥

-- the answer to a restart
abbrev pub IsRestart : Answer → Type 0
IsRestart (replied event reply) = ⊥
IsRestart (gone_on ledger) = Unit {0}
IsRestart no_room = Unit {0}
IsRestart bad_id = ⊥

-- the line stands for what was answered; only what is to be stored, or to go on, finds no room
abbrev pub IsAnswered : TopicName → List ℕ → Answer → Type 0
IsAnswered this line (replied event reply) = IsLine this line (lines.Event event)
IsAnswered this line (gone_on ledger) = IsLine this line lines.Restart
IsAnswered this line no_room = IsLine this line (lines.Event Stored) ⊎ IsLine this line lines.Restart
IsAnswered this line bad_id = IsLine this line lines.BadId

-- the answer leads from the one to the other: an event by a step of the delivery machine, and a restart to what is stored
abbrev pub IsStepOf : Standing → Answer → Standing → Type 0
IsStepOf s (replied event reply) t = Answers s.state event reply t.state × (t.stored ≡ stored_by event s)
IsStepOf s (gone_on ledger) t = (t.state ≡ restarted s.stored) × (t.stored ≡ s.stored) × (ledger ≡ t.state.ledger)
IsStepOf s no_room t = t ≡ s
IsStepOf s bad_id t = t ≡ s

-- each of the first lines was answered
abbrev pub AreAnswered : TopicName → List (List ℕ) → List Answer → Type 0
AreAnswered this lines [] = Unit {0}
AreAnswered this [] (answer ∷ answers) = ⊥
AreAnswered this (line ∷ lines) (answer ∷ answers) = IsAnswered this line answer × AreAnswered this lines answers

-- the answers lead from the one to the other, each in turn: they are those of runs that restarts join
abbrev pub IsRun : Standing → List Answer → Standing → Type 0
IsRun s [] t = t ≡ s
IsRun s (answer ∷ answers) t = (mid : Standing) × IsStepOf s answer mid × IsRun mid answers t

-- the lines of the answers, one after another
abbrev pub texts : List Answer → List ℕ
texts answers = flat_map answer_text answers

-- ---- the lines that have ended

-- the ends of so many lines were read, or nothing is left to read
abbrev pub HaveEnded : List ℕ → Option (List ℕ) → ℕ → Type 0
HaveEnded read left count = (count ≤ ends_in read) ⊎ IsAtEnd left

-- the lines that were not answered
abbrev pub lines_after : List ℕ → List Answer → List (List ℕ)
lines_after read answers = drop (length answers) (lines_of read)

-- the lines begin with one that is such
abbrev pub BeginsWith : (List ℕ → Type 0) → List (List ℕ) → Type 0
BeginsWith P [] = ⊥
BeginsWith P (line ∷ lines) = P line

-- the line after the answered ones has ended, and is such
abbrev pub IsNext : List ℕ → Option (List ℕ) → List Answer → (List ℕ → Type 0) → Type 0
IsNext read left answers P = HaveEnded read left (length answers + 1) × BeginsWith P (lines_after read answers)

-- the line has more bytes than a line may have, so that it stands for nothing
abbrev pub IsTooLong : List ℕ → Type 0
IsTooLong line = longest_line < length line

-- the line after the answered ones stands for nothing; it has ended, or what was read of it is too long already
abbrev pub IsBadNext : TopicName → List ℕ → Option (List ℕ) → List Answer → Type 0
IsBadNext this read left answers = IsNext read left answers (IsBadLine this) ⊎ BeginsWith IsTooLong (lines_after read answers)

-- ---- how a replay ends

-- why a replay ended after its answers: all lines were answered and nothing is left to read, or the next line is bad;
-- where the reader failed, each line that had its end was answered
abbrev pub Ends : TopicName → List ℕ → Option (List ℕ) → List Answer → Result (Unit {0}) Stop → Type 0
Ends this read left answers (Ok done) = (length answers ≡ length (lines_of read)) × IsAtEnd left
Ends this read left answers (Err (BadLine n)) = (n ≡ length answers + 1) × IsBadNext this read left answers
Ends this read left answers (Err Read) = length answers ≡ ends_in read
Ends this read left answers (Err Write) = Unit {0}
Ends this read left answers (Err Memory) = Unit {0}

-- the last line of a replay that ended at a bad one
abbrev pub bad_line_text : ℕ → List ℕ
bad_line_text n = codes "bad line " ++ decimal n ++ 10 ∷ []

-- what is written after the answers: the number of a bad line
abbrev pub last_words : Result (Unit {0}) Stop → List ℕ
last_words (Ok done) = []
last_words (Err (BadLine n)) = bad_line_text n
last_words (Err Read) = []
last_words (Err Write) = []
last_words (Err Memory) = []

-- all of the text is written, or a front of it where writing failed
abbrev pub IsWritten : List ℕ → Result (Unit {0}) Stop → List ℕ → Type 0
IsWritten text outcome written = (written ≡ text) ⊎ ((outcome ≡ Err Write) × (rest : List ℕ) × (written ++ rest ≡ text))

-- the reply of the next line was lost for want of memory, when the line had led to where the topic stands
abbrev pub IsLost : TopicName → List ℕ → Option (List ℕ) → List Answer → Standing → Standing → Type 0
IsLost this read left answers last state =
    (answer : Answer) × IsNext read left answers (λ line. IsAnswered this line answer) × IsStepOf last answer state

-- ---- the replay

-- what stands beside a replay: what its reader has left, what its writer has, and how its topic stands
pub record Sides : Type 0 where
  pub left : Option (List ℕ)
  pub written : Option (List ℕ)
  pub topic : Standing

abbrev pub sides : Option (List ℕ) → Option (List ℕ) → Standing → Sides
sides left written topic = record { left = left; written = written; topic = topic }

-- a replay of the topic of the name reads some of its input, answers the first lines by a run, and writes the answers
pub record IsReplay (this : TopicName) (old : Sides) (outcome : Result (Unit {0}) Stop) (new : Sides) : Type 0 where
  pub read : List ℕ
  pub consumed : Consumes old.left new.left read
  pub answers : List Answer
  pub answered : AreAnswered this (lines_of read) answers
  -- no line is answered before its end was read
  pub ended : HaveEnded read new.left (length answers)
  pub last : Standing
  pub run : IsRun old.topic answers last
  -- how it ended, but for a fault of the writer
  pub cause : Result (Unit {0}) Stop
  pub same : (outcome ≡ cause) ⊎ (outcome ≡ Err Write)
  pub ends : Ends this read new.left answers cause
  pub written : List ℕ
  pub appended : Appends old.written new.written written
  pub text : IsWritten (texts answers ++ last_words cause) outcome written
  -- no event was applied but those of the answers, and one whose reply was lost
  pub leaves : (new.topic ≡ last) ⊎ ((cause ≡ Err Memory) × IsLost this read new.left answers last new.topic)

-- `persistent://public/default/t`
abbrev pub this_topic : TopicName
this_topic = record { tenant = codes "public"; namespace = codes "default"; topic = codes "t" }
