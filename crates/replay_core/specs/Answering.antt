-- How one line is answered: for the private functions of the replay.
use Rattle.std.specs.Prelude.{◌≡◌, List, ℕ, ◌⊎◌}
use Rattle.position_core.specs.declared.topic_name.TopicName.{TopicName}
use Rattle.replay_lines.specs.Grammar.{IsBadLine}
use Rattle.replay_core.specs.declared.stop.Stop.{Stop}
use Rattle.replay_core.specs.declared.stop.Stop.TheVariants.{BadLine, Read, Write, Memory}
use Rattle.replay_lines.specs.declared.reading.Line.{Line}
use Rattle.replay_lines.specs.declared.reading.Line.TheVariants as lines
use Rattle.topic_restart.specs.Standing.{Standing}
use Rattle.replay_core.specs.Replay.{Answer, bad_id, IsAnswered, IsAnswerTo, IsRestart, IsStepOf}

-- the answer to what a line stands for
abbrev pub IsAnswerOf : Line → Answer → Type 0
IsAnswerOf (lines.Event event) answer = IsAnswerTo event answer
IsAnswerOf lines.Restart answer = IsRestart answer
IsAnswerOf lines.BadId answer = answer ≡ bad_id

-- the line was answered by a step from the one state to the other
abbrev pub IsAnsweredBy : TopicName → List ℕ → Standing → Answer → Standing → Type 0
IsAnsweredBy this line s answer t = IsAnswered this line answer × IsStepOf s answer t

-- nothing was done, or the line was answered and the answer was lost
abbrev pub MayBeLost : TopicName → List ℕ → Standing → Standing → Type 0
MayBeLost this line s t = (t ≡ s) ⊎ ((answer : Answer) × IsAnsweredBy this line s answer t)

-- a line is not answered where it stands for nothing, which is said by its number, or for want of memory
abbrev pub StopsAt : TopicName → List ℕ → ℕ → Standing → Stop → Standing → Type 0
StopsAt this line number s (BadLine n) t = IsBadLine this line × (n ≡ number) × (t ≡ s)
StopsAt this line number s Read t = ⊥
StopsAt this line number s Write t = ⊥
StopsAt this line number s Memory t = MayBeLost this line s t
