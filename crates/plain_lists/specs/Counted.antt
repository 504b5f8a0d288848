-- Counts kept as a list of entries.
use Rattle.std.specs.Prelude.{ℕ, List, map}
use Rattle.std.specs.List.{find}
use Rattle.std.specs.Option.{option_map, unwrap_or}
use Rattle.position_core.specs.declared.position.Position.{Position}
use Rattle.position_core.specs.Position.{same_position}
use Rattle.delivery_machine.specs.Ticking.{counted_again}

abbrev pub count_in : List (Position × ℕ) → Position → ℕ
count_in entries p = unwrap_or (option_map (λ e. e.1) (find (λ e. same_position p e.0) entries)) 0

-- the positions with their counts, each risen by one
abbrev pub raised_entries : List (Position × ℕ) → List Position → List (Position × ℕ)
raised_entries entries positions = map (λ p. (p, counted_again (count_in entries p))) positions
