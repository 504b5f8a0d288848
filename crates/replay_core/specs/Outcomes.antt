-- What a private function asks of the way in which a replay ended.
use Rattle.std.specs.Prelude.{ℕ, Bool, true, false, Option, Some, None}
use Rattle.std.specs.declared.result.Result.{Result}
use Rattle.std.specs.declared.result.Result.TheVariants.{Ok, Err}
use Rattle.replay_core.specs.declared.stop.Stop.{Stop}
use Rattle.replay_core.specs.declared.stop.Stop.TheVariants.{BadLine, Read, Write, Memory}

-- the number of the bad line at which it ended, if it did
abbrev pub bad_line_in : Result (Unit {0}) Stop → Option ℕ
bad_line_in (Ok done) = None
bad_line_in (Err (BadLine n)) = Some n
bad_line_in (Err Read) = None
bad_line_in (Err Write) = None
bad_line_in (Err Memory) = None

-- whether it ended because nothing could be written
abbrev pub failed_writing : Result (Unit {0}) Stop → Bool
failed_writing (Ok done) = false
failed_writing (Err (BadLine n)) = false
failed_writing (Err Read) = false
failed_writing (Err Write) = true
failed_writing (Err Memory) = false
