-- The segments of a path.
use Rattle.std.specs.Prelude.{ℕ, ◌==◌, List}
use Rattle.std.specs.List.{slice_split}

-- the parts of a text between its slashes
abbrev pub segments_of : List ℕ → List (List ℕ)
segments_of text = slice_split (λ byte. byte == 47) text
