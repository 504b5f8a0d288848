-- How often something came that is told of once a second at most.
use Rattle.std.specs.Prelude.{ℕ, Bool, false, nat_eq, nat_lt, not, ◌&&◌, Option, Some, None, if◌then◌else◌}
use Rattle.worker_loops.specs.declared.tally.Tally.{Tally}

-- it was told last in this second
abbrev pub is_in : ℕ → Option ℕ → Bool
is_in second None = false
is_in second (Some told) = nat_eq told second

-- it may be told in this second: it came since it was told, and that was not in this second
abbrev pub may_tell : ℕ → Tally → Bool
may_tell second t = nat_lt 0 t.count && not (is_in second t.told)

-- how often it came since it was told, where that may be told
abbrev pub told_in : ℕ → Tally → Option ℕ
told_in second t = if may_tell second t then Some t.count else None

-- the same once it was told
abbrev pub after_telling : ℕ → Tally → Tally
after_telling second t = if may_tell second t then record { count = 0; told = Some second } else t
