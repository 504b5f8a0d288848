-- Objects as they are written: compact JSON.
use Rattle.std.specs.Prelude.{ℕ, IsTrue, List, [], ◌∷◌, ◌++◌, flat_map, map, codes}
use Rattle.std.specs.List.Sorted.{IsStrictlySortedBy}
use Rattle.json.specs.Json.{Json, string, object, Members, no_members, member}
use Rattle.json.specs.Print.{print, quoted}
use Rattle.json.specs.Tree.{json_tokens}
use Rattle.position_core.specs.Name.{name_order}
use Rattle.position_core.specs.Properties.{are_properties}

-- the fields, each a name and its value, in this order
abbrev pub members_of : List (List ℕ × Json) → Members
members_of [] = no_members
members_of (field ∷ others) = member field.0 field.1 (members_of others)

abbrev pub object_with : List (List ℕ × Json) → Json
object_with fields = object (members_of fields)

-- the value without a space
abbrev pub compact : Json → List ℕ
compact value = print (json_tokens value)

-- the object of the fields without a space
abbrev pub object_text : List (List ℕ × Json) → List ℕ
object_text fields = compact (object_with fields)

abbrev pub field_text : List ℕ × Json → List ℕ
field_text field = quoted field.0 ++ codes ":" ++ compact field.1

-- fields that others follow
abbrev pub leading : List (List ℕ × Json) → List ℕ
leading fields = flat_map (λ field. field_text field ++ codes ",") fields

-- the fields, with a comma between them
abbrev pub fields_text : List (List ℕ × Json) → List ℕ
fields_text [] = []
fields_text (first ∷ others) = field_text first ++ flat_map (λ other. codes "," ++ field_text other) others

-- a property's value under its name
abbrev pub property_field : List ℕ × List ℕ → List ℕ × Json
property_field property = (property.0, string property.1)

abbrev pub property_fields : List (List ℕ × List ℕ) → List (List ℕ × Json)
property_fields properties = map property_field properties

-- properties as a message has them: within their limits, in the order of their names' bytes, no name twice
pub record AreProperties (properties : List (List ℕ × List ℕ)) : Type 0 where
  pub within : IsTrue (are_properties properties)
  pub rising : IsStrictlySortedBy name_order (map (λ p. p.0) properties)
