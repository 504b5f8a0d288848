-- The query of a target: its parameters, by name.
use Rattle.std.specs.Prelude.{ℕ, ◌&&◌, Bool, List, map, Option, Some, None, option_map, ok_or, Result, Ok, Err, if◌then◌else◌}
use Rattle.std.specs.List.{list_all, find}
use Rattle.std.specs.Str.{is_utf8, bytes_eq}
use Rattle.form_urlencoded.specs.Form.{plus_to_space, parse}
use Rattle.endpoint_core.specs.Texts.{text_of}
use Rattle.endpoint_core.specs.declared.faults.Cause.{Cause}
use Rattle.endpoint_core.specs.declared.faults.Cause.TheVariants.{BadParameter}
use Rattle.endpoint_core.specs.declared.fields.Field.{Field}
use Rattle.endpoint_core.specs.declared.fields.Field.TheVariants.{Query}
use Rattle.endpoint_core.specs.Fields.{name_of}

-- a name and a value
abbrev pub Parameter : Type 0
Parameter = List ℕ × List ℕ

-- the text that a name or a value stands for, after each `+` for a space
abbrev pub word_of : List ℕ → Result (List ℕ) Cause
word_of bytes = ok_or (text_of (map plus_to_space bytes)) (BadParameter Query)

abbrev pub is_text : Parameter → Bool
is_text parameter = is_utf8 parameter.0 && is_utf8 parameter.1

-- the decoded parameters, each of which is to be UTF-8
abbrev pub parameters_of : List ℕ → Result (List Parameter) Cause
parameters_of query = if list_all is_text (parse query) then Ok (parse query) else Err (BadParameter Query)

-- the value of the first parameter of the name
abbrev pub value_at : List ℕ → List Parameter → Option (List ℕ)
value_at name query = option_map (λ parameter. parameter.1) (find (λ parameter. bytes_eq parameter.0 name) query)

-- the default where a parameter is absent; a text that stands for no value is refused
abbrev pub said_by : {A : Type 0} → Field → A → (List ℕ → Option A) → Option (List ℕ) → Result A Cause
said_by field default reads None = Ok default
said_by field default reads (Some text) = ok_or (reads text) (BadParameter field)

-- what the parameter says
abbrev pub said : {A : Type 0} → Field → A → (List ℕ → Option A) → List Parameter → Result A Cause
said field default reads query = said_by field default reads (value_at (name_of field) query)
