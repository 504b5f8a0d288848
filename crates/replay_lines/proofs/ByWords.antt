-- A line that is read by its words.
use Rattle.std.proofs.Common.{◌≤◌, ℕ, List, length}
use Rattle.std.specs.declared.result.Result.{Result}
use Rattle.std.specs.declared.result.Result.TheVariants.{Ok, Err}
use Rattle.position_core.specs.declared.topic_name.TopicName.{TopicName}
use Rattle.replay_lines.specs.declared.reading.Line.{Line}
use Rattle.replay_lines.specs.declared.words.Unread.{Unread}
use Rattle.replay_lines.specs.declared.words.Unread.TheVariants.{BadLine, Memory}
use Rattle.replay_lines.specs.Grammar.{IsLine, StandFor, longest_line}
use Rattle.replay_lines.specs.Splitting.{words_of}
use Rattle.replay_lines.specs.Reads.{Reads}

-- a line that is short enough is read by its words
pub by_words : (this : TopicName) (line : List ℕ) (r : Result Line Unread) → length line ≤ longest_line → Reads (StandFor this (words_of line)) r → Reads (IsLine this line) r
by_words this line (Ok read) short stand = (short, stand)
by_words this line (Err BadLine) short none = λ read is. none read is.1
by_words this line (Err Memory) short none = tt
