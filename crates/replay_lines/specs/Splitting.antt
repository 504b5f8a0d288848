-- Texts that are split at a byte.
use Rattle.std.specs.Prelude.{ℕ, ◌==◌, List, [], ◌∷◌, Option, Some, None, ◌<◌, length, ⊤}
use Rattle.std.specs.List.{slice_split}

-- the parts of a text between its separators; a text without one is one part
abbrev pub split_by : ℕ → List ℕ → List (List ℕ)
split_by separator text = slice_split (λ byte. byte == separator) text

-- a line is split into words at single spaces
abbrev pub words_of : List ℕ → List (List ℕ)
words_of line = split_by 32 line

-- the words of what is left of a line: none where it has ended
abbrev pub words_left : Option (List ℕ) → List (List ℕ)
words_left None = []
words_left (Some rest) = words_of rest

-- no word is empty
abbrev pub NoneEmpty : List (List ℕ) → Type 0
NoneEmpty [] = ⊤
NoneEmpty (word ∷ words) = (0 < length word) × NoneEmpty words
