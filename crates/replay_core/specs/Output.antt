-- What is written of a text: for the private functions that write.
use Rattle.std.specs.Prelude.{◌≡◌, ℕ, List, ◌++◌, Option}
use Rattle.std.specs.Io.KnownBytes.{Appends}

-- a front of the text was written, and nothing else
abbrev pub WritesFront : Option (List ℕ) → Option (List ℕ) → List ℕ → Type 0
WritesFront before now text = (front : List ℕ) × (rest : List ℕ) × (text ≡ front ++ rest) × Appends before now front
