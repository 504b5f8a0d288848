-- The lines of an input.
use Rattle.std.specs.Prelude.{ℕ, ◌==◌, List, [], ◌∷◌, if◌then◌else◌}
use Rattle.std.specs.List.{count_by}

-- the byte goes onto the first of the lines, which it makes where there is none
abbrev pub onto_line : ℕ → List (List ℕ) → List (List ℕ)
onto_line byte [] = (byte ∷ []) ∷ []
onto_line byte (line ∷ lines) = (byte ∷ line) ∷ lines

-- each line ends with LF, which the last may lack
abbrev pub lines_of : List ℕ → List (List ℕ)
lines_of [] = []
lines_of (byte ∷ input) = if byte == 10 then [] ∷ lines_of input else onto_line byte (lines_of input)

-- how many of the lines have their end
abbrev pub ends_in : List ℕ → ℕ
ends_in input = count_by (λ byte. byte == 10) input
