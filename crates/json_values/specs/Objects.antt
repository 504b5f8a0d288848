-- The object that a text is, and what stands in it.
use Rattle.std.specs.Prelude.{ℕ, List, length, nat_le, ◌&&◌, if◌then◌else◌, Option, Some, None, is_some, option_and_then}
use Rattle.std.specs.Str.{is_utf8}
use Rattle.serde_json.specs.Data.{Data}
use Rattle.serde_json.specs.Find.{get, as_number, as_object, as_str, as_u64}
use Rattle.serde_json.specs.Read.{read}

-- a value that is an object
abbrev pub if_object : Data → Option Data
if_object d = if is_some (as_object d) then Some d else None

-- the object that a text of at most 2,097,152 bytes is
abbrev pub object_of : List ℕ → Option Data
object_of text = if nat_le (length text) 2097152 && is_utf8 text then option_and_then if_object (read text) else None

-- the text that the field says
abbrev pub text_at : List ℕ → Data → Option (List ℕ)
text_at name d = option_and_then as_str (get name d)

-- the whole number from 0 that the field says
abbrev pub whole_at : List ℕ → Data → Option ℕ
whole_at name d = option_and_then as_u64 (option_and_then as_number (get name d))

-- the number, where it is from the least to the most
abbrev pub between : ℕ → ℕ → ℕ → Option ℕ
between least most n = if nat_le least n && nat_le n most then Some n else None
