-- How far a replay has come, between two of its steps: for its private functions and their proofs.
use Rattle.std.specs.Prelude.{◌≡◌, ℕ, ◌+◌, ◌==◌, Bool, true, false, not, List, [], ◌∷◌, ◌++◌, ◌⊎◌, length, Option, MatchResult}
use Rattle.std.specs.List.{list_any, list_all}
use Rattle.std.specs.Io.KnownBytes.{Appends}
use Rattle.std.specs.declared.result.Result.{Result}
use Rattle.std.specs.declared.result.Result.TheVariants.{Err}
use Rattle.position_core.specs.declared.topic_name.TopicName.{TopicName}
use Rattle.replay_lines.specs.Grammar.{IsBadLine}
use Rattle.replay_core.specs.Lines.{lines_of}
use Rattle.topic_restart.specs.Standing.{Standing}
use Rattle.replay_core.specs.Replay.{Answer, AreAnswered, IsAnswered, IsStepOf, IsRun, IsTooLong, IsLost, IsWritten, HaveEnded, Ends, texts}
use Rattle.replay_core.specs.declared.stop.Stop.{Stop}
use Rattle.replay_core.specs.declared.stop.Stop.TheVariants.{BadLine, Read, Write, Memory}
use Rattle.replay_core.specs.declared.engine.Replay.{Replay}

-- the text has the end of a line
abbrev pub has_end : List ℕ → Bool
has_end text = list_any (λ byte. byte == 10) text

-- the lines, each with its end
abbrev pub joined : List (List ℕ) → List ℕ
joined [] = []
joined (line ∷ lines) = line ++ 10 ∷ joined lines

-- no line has an end in it
abbrev pub AreApart : List (List ℕ) → Type 0
AreApart lines = list_all (λ line. not (has_end line)) lines ≡ true

-- the topic's name, and how writer and topic were before the replay
pub record Start : Type 0 where
  pub name : TopicName
  pub written : Option (List ℕ)
  pub topic : Standing

-- a moment of a replay: the replay itself, what its writer has, and how its topic stands
pub record Moment : Type 0 where
  pub replay : Replay
  pub written : Option (List ℕ)
  pub topic : Standing

abbrev pub moment : Replay → Option (List ℕ) → Standing → Moment
moment replay written topic = record { replay = replay; written = written; topic = topic }

-- what was written of a text, and what is still gathered of it
abbrev pub with_gathered : List ℕ → Moment → List ℕ
with_gathered text m = text ++ m.replay.output.text.items

-- the whole lines of the input so far were answered by a run; of their answers some were written, and some are gathered;
-- what has come of the next line has no end yet
pub record Progress (s : Start) (input : List ℕ) (m : Moment) : Type 0 where
  pub name : m.replay.name ≡ s.name
  pub whole : List (List ℕ)
  pub answers : List Answer
  pub text : List ℕ
  pub split : input ≡ joined whole ++ m.replay.begun.items
  pub apart : AreApart whole
  pub begun : has_end m.replay.begun.items ≡ false
  pub all : length whole ≡ length answers
  pub answered : AreAnswered s.name whole answers
  pub run : IsRun s.topic answers m.topic
  pub count : m.replay.lines ≡ length answers
  pub appended : Appends s.written m.written text
  pub written : with_gathered text m ≡ texts answers

-- the text begins with a line that is such, and has its end
abbrev pub BeginsWithLine : (List ℕ → Type 0) → List ℕ → Type 0
BeginsWithLine P text = (line rest : List ℕ) × (text ≡ line ++ 10 ∷ rest) × (has_end line ≡ false) × P line

-- the text begins with more bytes than a line may have
abbrev pub BeginsTooLong : List ℕ → Type 0
BeginsTooLong text = (line rest : List ℕ) × (text ≡ line ++ rest) × (has_end line ≡ false) × IsTooLong line

-- why a replay stops between two reads, after so many answers and before the text
abbrev pub Because : TopicName → ℕ → List ℕ → Stop → Type 0
Because this count text (BadLine n) = (n ≡ count + 1) × (BeginsWithLine (IsBadLine this) text ⊎ BeginsTooLong text)
Because this count text Read = ⊥
Because this count text Write = Unit {0}
Because this count text Memory = Unit {0}

-- the topic stands as after the answers, or the answer of the next line was lost for want of memory
abbrev pub LeavesBefore : TopicName → List ℕ → Standing → Stop → Standing → Type 0
LeavesBefore this text last stop state =
    (state ≡ last) ⊎ ((stop ≡ Memory) × (answer : Answer) × BeginsWithLine (λ line. IsAnswered this line answer) text × IsStepOf last answer state)

-- the replay has ended before the end of the input, whatever comes after
pub record Stopped (s : Start) (input : List ℕ) (m : Moment) (stop : Stop) : Type 0 where
  pub name : m.replay.name ≡ s.name
  pub whole : List (List ℕ)
  pub tail : List ℕ
  pub answers : List Answer
  pub last : Standing
  pub text : List ℕ
  pub split : input ≡ joined whole ++ tail
  pub apart : AreApart whole
  pub all : length whole ≡ length answers
  pub answered : AreAnswered s.name whole answers
  pub run : IsRun s.topic answers last
  pub because : Because s.name (length answers) tail stop
  pub appended : Appends s.written m.written text
  pub written : IsWritten (texts answers) (Err stop) (with_gathered text m)
  pub leaves : LeavesBefore s.name tail last stop m.topic

-- after the part of the input the replay goes on, or has stopped
abbrev pub Takes : List ℕ → Moment → Result (Unit {0}) Stop → Moment → Type 0
Takes part old outcome new =
    (s : Start) (input : List ℕ) → Progress s input old
    → MatchResult outcome (λ done. Progress s (input ++ part) new) (λ stop. Stopped s (input ++ part) new stop)

-- the replay has ended, and was told to write its answers and the last words
pub record Ended (s : Start) (input : List ℕ) (left : Option (List ℕ)) (m : Moment) (outcome : Result (Unit {0}) Stop) (words : List ℕ) : Type 0 where
  pub name : m.replay.name ≡ s.name
  pub answers : List Answer
  pub last : Standing
  pub text : List ℕ
  pub answered : AreAnswered s.name (lines_of input) answers
  pub ended : HaveEnded input left (length answers)
  pub run : IsRun s.topic answers last
  pub ends : Ends s.name input left answers outcome
  pub appended : Appends s.written m.written text
  pub written : IsWritten (texts answers ++ words) outcome (with_gathered text m)
  pub leaves : (m.topic ≡ last) ⊎ ((outcome ≡ Err Memory) × IsLost s.name input left answers last m.topic)
