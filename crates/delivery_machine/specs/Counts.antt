-- Redelivery counts, as a store keeps them.
use Rattle.std.specs.Prelude.{◌≡◌, ℕ, IsTrue}
use Rattle.std.specs.FinMap as map_of
use Rattle.std.specs.declared.cmp.Ordering.TheVariants.{Less}
use Rattle.position_core.specs.declared.position.Position.{Position}
use Rattle.position_core.specs.Position.{position_cmp}

-- each message that is counted comes before this position
abbrev pub IsAfterAll : map_of.FinMap position_cmp ℕ → Position → Type 0
IsAfterAll counts position = (other : Position) → IsTrue (map_of.contains_key counts other) → position_cmp other position ≡ Less
