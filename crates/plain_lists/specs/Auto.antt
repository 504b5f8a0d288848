-- The names that a topic makes, beside the names that are in use.
use Rattle.std.specs.Prelude.{◌≡◌, ℕ, ◌<◌, Bool, true, false, List}
use Rattle.std.specs.List.{list_any}
use Rattle.std.specs.Str.{bytes_eq}
use Rattle.delivery_machine.specs.Producing.{auto_name}

abbrev pub is_among : List (List ℕ) → List ℕ → Bool
is_among names name = list_any (λ other. bytes_eq other name) names

-- the least number whose name is not among the names
abbrev pub IsLeastFreeIn : List (List ℕ) → ℕ → Type 0
IsLeastFreeIn names n = (is_among names (auto_name n) ≡ false) × ((k : ℕ) → k < n → is_among names (auto_name k) ≡ true)
