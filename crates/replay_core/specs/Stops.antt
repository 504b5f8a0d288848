-- How a program ends after a replay.
use Rattle.std.specs.Prelude.{◌≡◌, ℕ, List, Option}
use Rattle.std.specs.declared.result.Result.{Result}
use Rattle.std.specs.declared.result.Result.TheVariants.{Ok, Err}
use Rattle.topic_restart.specs.Standing.{Standing}
use Rattle.replay_core.specs.Replay.{IsReplay, Sides, sides, this_topic}
use Rattle.replay_core.specs.declared.stop.Stop.{Stop}
use Rattle.replay_core.specs.declared.stop.Stop.TheVariants.{BadLine, Read, Write, Memory}

-- 2 after a bad line, and 1 after the other faults
abbrev pub status_of : Result (Unit {0}) Stop → ℕ
status_of (Ok done) = 0
status_of (Err (BadLine number)) = 2
status_of (Err Read) = 1
status_of (Err Write) = 1
status_of (Err Memory) = 1

-- the topic was replayed, and the status says how that ended
abbrev pub EndsWith : Sides → ℕ → Option (List ℕ) → Option (List ℕ) → Type 0
EndsWith old status left written =
    (outcome : Result (Unit {0}) Stop) × (last : Standing) × IsReplay this_topic old outcome (sides left written last) × (status ≡ status_of outcome)
