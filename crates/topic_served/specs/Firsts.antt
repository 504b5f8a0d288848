-- The first messages of a log.
use Rattle.std.specs.Prelude.{ℕ, List, map, take}
use Rattle.position_core.specs.declared.position.Position.{Position}
use Rattle.position_core.specs.declared.message.Entry.{Entry}

-- the positions of the first messages
abbrev pub firsts : ℕ → List Entry → List Position
firsts n log = map (λ e. e.position) (take n log)
