-- A text whose tokens begin an object, or none.
use Rattle.std.proofs.Common.{◌≡◌, ℕ, ◌<◌, ◌≤◌, List, [], ◌∷◌, length, Bool, true, false, Option, Some, None, option_map, option_and_then, refl, sym, ap, ◌∙◌, arith, true≢false}
use Rattle.json.specs.Token.{Token}
use Rattle.json.specs.Json as json
use Rattle.json.specs.Json.{parse_map, value, items, members}
use Rattle.json.proofs.Grammar.{value_is, value-begin_object, value-begin_array}
use Rattle.serde_json.specs.Data.{Num, Data, number, array, object, Items, Members, no_members}
use Rattle.serde_json.specs.Read.{number_of, of_json, of_items, of_members, converted, read}
use Rattle.std.specs.Prelude.{nat_le}
use Rattle.std.specs.Str.{IsUtf8, is_utf8}
use Rattle.std.proofs.lemmas.Str.{is_utf8-from_IsUtf8}
use Rattle.std.proofs.lemmas.Grind.{common_steps}
use Rattle.json_values.specs.Objects.{if_object, object_of}
use Rattle.json_glances.specs.Objects.{begins_object, if_last, object_from}

-- the object that is all of what was read
abbrev pub whole : Option (json.Json × List Token) → Option Data
whole o = option_and_then if_object (option_and_then of_json (option_and_then (λ p. json.if_last p.0 p.1) o))

over : (r : List Token) (t : Token) (x : Option Members) → None ≡ option_and_then (λ p. if_last p.0 p.1) (option_map {U = Members × List Token} (λ b. (b, t ∷ r)) x)
over r t None = refl
over r t (Some ms) = refl

alone : (x : Option Members) → option_and_then if_object (option_map object x) ≡ option_and_then (λ p. if_last p.0 p.1) (option_map {U = Members × List Token} (λ b. (b, [])) x)
alone None = refl
alone (Some ms) = refl

whole_object : (o : Option (json.Members × List Token)) → whole (parse_map json.object o) ≡ option_and_then (λ p. if_last p.0 p.1) (converted (λ ms. of_members ms no_members) o)
whole_object None = refl
whole_object (Some (ms, [])) = alone (of_members ms no_members)
whole_object (Some (ms, t ∷ r)) = over r t (of_members ms no_members)

pub opened : (ts r : List Token) → ts ≡ Token.begin_object ∷ r → whole (value 127 ts) ≡ object_from r
opened ts r is = ap (λ x. whole (value 127 x)) is ∙ ap whole (value-begin_object 127 r (omega arith)) ∙ whole_object (members (value 126) (length r) r)

list_alone : (x : Option Items) → option_and_then if_object (option_map array x) ≡ None
list_alone None = refl
list_alone (Some ds) = refl

whole_list : (o : Option (json.Items × List Token)) → whole (parse_map json.array o) ≡ None
whole_list None = refl
whole_list (Some (js, [])) = list_alone (of_items js)
whole_list (Some (js, t ∷ r)) = refl

no_number : (x : Option Num) → option_and_then if_object (option_map number x) ≡ None
no_number None = refl
no_number (Some n) = refl

whole_other : (j : json.Json) (r : List Token) → option_and_then if_object (of_json j) ≡ None → whole (Some (j, r)) ≡ None
whole_other j [] none = none
whole_other j (t ∷ r) none = refl

pub not_opened : (ts : List Token) → begins_object ts ≡ false → whole (value 127 ts) ≡ None
not_opened [] is = ap whole (value_is 127 [])
not_opened (Token.begin_object ∷ ts) is = absurd (true≢false is)
not_opened (Token.end_object ∷ ts) is = ap whole (value_is 127 (Token.end_object ∷ ts))
not_opened (Token.begin_array ∷ ts) is = ap whole (value-begin_array 127 ts (omega arith)) ∙ whole_list (items (value 126) (length ts) ts)
not_opened (Token.end_array ∷ ts) is = ap whole (value_is 127 (Token.end_array ∷ ts))
not_opened (Token.key s ∷ ts) is = ap whole (value_is 127 (Token.key s ∷ ts))
not_opened (Token.string s ∷ ts) is = ap whole (value_is 127 (Token.string s ∷ ts)) ∙ whole_other (json.string s) ts refl
not_opened (Token.number s ∷ ts) is = ap whole (value_is 127 (Token.number s ∷ ts)) ∙ whole_other (json.number s) ts (no_number (number_of s))
not_opened (Token.boolean b ∷ ts) is = ap whole (value_is 127 (Token.boolean b ∷ ts)) ∙ whole_other (json.boolean b) ts refl
not_opened (Token.null ∷ ts) is = ap whole (value_is 127 (Token.null ∷ ts)) ∙ whole_other json.null ts refl
not_opened (Token.bad ∷ ts) is = ap whole (value_is 127 (Token.bad ∷ ts))

short : (text : List ℕ) → length text ≤ 2097152 → nat_le (length text) 2097152 ≡ true
short text fits = grind (arith, common_steps)

text_read : (bytes text : List ℕ) → nat_le (length bytes) 2097152 ≡ true → is_utf8 bytes ≡ true → text ≡ bytes → object_of bytes ≡ option_and_then if_object (read text)
text_read bytes text fits is same = rw (fits, is, same) refl

pub object_of_text : (bytes text : List ℕ) → length bytes ≤ 2097152 → IsUtf8 bytes → text ≡ bytes → object_of bytes ≡ option_and_then if_object (read text)
object_of_text bytes text fits is same = text_read bytes text (short bytes fits) (is_utf8-from_IsUtf8 bytes is) same
