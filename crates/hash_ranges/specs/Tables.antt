-- A table of either mode: shares that split all hashes, by their ends, or sticky ones.
use Rattle.std.specs.Prelude.{◌≡◌, ℕ, true, false, List, [], ◌∷◌}
use Rattle.position_core.specs.declared.block.Block.{Block}
use Rattle.position_core.specs.Numbers.{ConsumerNumber}
use Rattle.delivery_machine.specs.Shares.{Shares}
use Rattle.hash_ranges.specs.Ends.{shares_of}

-- sticky where there are sticky blocks
abbrev pub table_of : List (ℕ × ConsumerNumber) → List Block → Shares
table_of ends [] = record { blocks = shares_of ends; sticky = false }
table_of ends (b ∷ bs) = record { blocks = b ∷ bs; sticky = true }

-- where there are sticky blocks, nobody has a share of the others
abbrev pub IsOfOneMode : List (ℕ × ConsumerNumber) → List Block → Type 0
IsOfOneMode ends [] = Unit {0}
IsOfOneMode ends (b ∷ bs) = ends ≡ []
