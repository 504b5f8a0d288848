-- What a field of an object says.
use Rattle.std.specs.Prelude.{ℕ, List, [], ◌∷◌, length, Bool, nat_le, if◌then◌else◌, Option, Some, None, is_some, option_map, option_and_then, codes, Result, Ok, Err}
use Rattle.std.specs.Option.{option_or}
use Rattle.std.specs.Fmt.{decimal, signed_decimal}
use Rattle.serde_json.specs.Data.{Num, unsigned, negative, float, Data, Members, no_members, member}
use Rattle.serde_json.specs.Find.{as_null, as_bool, as_number, as_str, as_object}
use Rattle.position_core.specs.declared.fault.Fault.{Fault}
use Rattle.position_core.specs.declared.fault.Fault.TheVariants.{BadJson}
use Rattle.position_core.specs.Properties.{are_properties}

-- a whole number in decimal; a number with a fraction or an exponent is none
abbrev pub whole_text : Num → Option (List ℕ)
whole_text (unsigned n) = Some (decimal n)
whole_text (negative z) = Some (signed_decimal z)
whole_text (float x) = None

-- a text as it stands, or a whole number in decimal
abbrev pub word_of : Data → Option (List ℕ)
word_of d = option_or (as_str d) (option_and_then whole_text (as_number d))

-- `true` or `false`
abbrev pub truth_text : Bool → List ℕ
truth_text truth = if truth then codes "true" else codes "false"

-- a property's value: a word, or a truth value
abbrev pub value_of : Data → Option (List ℕ)
value_of d = option_or (word_of d) (option_map truth_text (as_bool d))

-- a text of at most so many bytes
abbrev pub short_text : ℕ → Data → Option (List ℕ)
short_text most d = option_and_then (λ text. if nat_le (length text) most then Some text else None) (as_str d)

-- what a field says to a reader: it is absent, or has another form than is read, or says this
pub data Said (A : Type 0) : Type 0 where
  absent : Said A
  other_form : Said A
  says : A → Said A

-- what is read, where it is there at all
abbrev pub if_read : {A : Type 0} → Option A → Said A
if_read None = other_form
if_read (Some x) = says x

-- a value that is null counts as absent
abbrev pub said_by : {A : Type 0} → (Data → Option A) → Data → Said A
said_by reads d = if is_some (as_null d) then absent else if_read (reads d)

abbrev pub said_at : {A : Type 0} → (Data → Option A) → Option Data → Said A
said_at reads None = absent
said_at reads (Some d) = said_by reads d

-- a field that may be absent, and is refused where it has another form
abbrev pub optional : {A : Type 0} → Said A → Result (Option A) Fault
optional absent = Ok None
optional other_form = Err BadJson
optional (says x) = Ok (Some x)

-- a field that stands for this where it is absent
abbrev pub said_or : {A : Type 0} → A → Said A → Result A Fault
said_or x absent = Ok x
said_or x other_form = Err BadJson
said_or x (says y) = Ok y

-- the property of the name with what its value says, before the others
abbrev pub with_property : List ℕ → Said (List ℕ) → Option (List (List ℕ × List ℕ)) → Option (List (List ℕ × List ℕ))
with_property name absent others = others
with_property name other_form others = None
with_property name (says value) others = option_map (λ pairs. (name, value) ∷ pairs) others

-- each field's name and value, in order, but for those that are null
abbrev pub pairs_in : Members → Option (List (List ℕ × List ℕ))
pairs_in no_members = Some []
pairs_in (member name d others) = with_property name (said_by value_of d) (pairs_in others)

-- an object of properties within their limits
abbrev pub properties_of : Data → Option (List (List ℕ × List ℕ))
properties_of d =
    option_and_then (λ pairs. if are_properties pairs then Some pairs else None) (option_and_then pairs_in (as_object d))

-- what was read, as another value
abbrev pub ok_as : {A B : Type 0} → (A → B) → Result A Fault → Result B Fault
ok_as f (Ok x) = Ok (f x)
ok_as f (Err fault) = Err fault
