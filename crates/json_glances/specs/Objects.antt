-- The object that the tokens of a text are.
use Rattle.std.specs.Prelude.{List, [], ◌∷◌, length, Bool, true, false, Option, Some, None, option_and_then}
use Rattle.json.specs.Json.{members, value}
use Rattle.json.specs.Token.{Token}
use Rattle.serde_json.specs.Data.{Data, Members, no_members, object}
use Rattle.serde_json.specs.Read.{converted, of_members}

-- the members, where nothing follows them
abbrev pub if_last : Members → List Token → Option Data
if_last ms [] = Some (object ms)
if_last ms (t ∷ ts) = None

-- the object whose members the tokens begin with, where nothing follows it
abbrev pub object_from : List Token → Option Data
object_from ts = option_and_then (λ p. if_last p.0 p.1) (converted (λ ms. of_members ms no_members) (members (value 126) (length ts) ts))

-- an object comes first
abbrev pub begins_object : List Token → Bool
begins_object [] = false
begins_object (Token.begin_object ∷ ts) = true
begins_object (Token.end_object ∷ ts) = false
begins_object (Token.begin_array ∷ ts) = false
begins_object (Token.end_array ∷ ts) = false
begins_object (Token.key s ∷ ts) = false
begins_object (Token.string s ∷ ts) = false
begins_object (Token.number s ∷ ts) = false
begins_object (Token.boolean b ∷ ts) = false
begins_object (Token.null ∷ ts) = false
begins_object (Token.bad ∷ ts) = false
