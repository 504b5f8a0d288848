-- Properties as the text of a row.
use Rattle.std.specs.Prelude.{ℕ, List}
use Rattle.json_values.specs.Written.{object_text, property_fields}

-- a compact JSON object
abbrev pub properties_text : List (List ℕ × List ℕ) → List ℕ
properties_text properties = object_text (property_fields properties)
