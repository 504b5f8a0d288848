-- Objects as they are written: field by field, and read back.
use Rattle.std.proofs.Common.{◌≡◌, ℕ, ◌+◌, ◌≤◌, length, length-append, List, [], ◌∷◌, ◌++◌, Bool, true, false, Some, flat_map, fold, refl, sym, ap, ◌∙◌, append_assoc, append-nil, arith}
use Rattle.std.specs.Prelude.{codes, if◌then◌else◌}
use Rattle.std.proofs.lemmas.Grind.{flat_map-append}
use Rattle.json.specs.Token.{Token}
use Rattle.json.specs.Json.{Json, null, boolean, number, string, array, object, Items, no_items, item, Members, no_members, member, document}
use Rattle.json.specs.Print.{ends, escape, print_from, quoted}
use Rattle.json.specs.Tree.{MembersHaveNumbers, items_tokens, json_tokens, members_depth, members_tokens}
use Rattle.json.proofs.Printed.Tokens.{print_from-append}
use Rattle.json.proofs.Printed.Trees.{document-print}
use Rattle.json_values.specs.Written.{compact, field_text, fields_text, leading, members_of, object_text, object_with, property_field}

abbrev pub Fields : Type 0
Fields = List (List ℕ × Json)

-- whether a value has just ended after the tokens
abbrev ended : Bool → List Token → Bool
ended b ts = fold (λ _ t. ends t) b ts

ended-append : (b : Bool) (ts us : List Token) → ended b (ts ++ us) ≡ ended (ended b ts) us
ended-append b [] us = refl
ended-append b (t ∷ ts) us = ended-append (ends t) ts us

items_ended : (b : Bool) (js : Items) → ended b (items_tokens js) ≡ true
items_ended b no_items = refl
items_ended b (item j js) = ended-append b (json_tokens j) (items_tokens js) ∙ items_ended (ended b (json_tokens j)) js

members_ended : (b : Bool) (ms : Members) → ended b (members_tokens ms) ≡ true
members_ended b no_members = refl
members_ended b (member k j ms) = ended-append false (json_tokens j) (members_tokens ms) ∙ members_ended (ended false (json_tokens j)) ms

json_ended : (b : Bool) (j : Json) → ended b (json_tokens j) ≡ true
json_ended b null = refl
json_ended b (boolean x) = refl
json_ended b (number s) = refl
json_ended b (string s) = refl
json_ended b (array js) = items_ended false js
json_ended b (object ms) = members_ended false ms

-- after a value's text comes what follows a value
after_value : (j : Json) (rest : List Token) → print_from false (json_tokens j ++ rest) ≡ compact j ++ print_from true rest
after_value j rest = print_from-append false (json_tokens j) rest ∙ ap (λ b. compact j ++ print_from b rest) (json_ended false j)

abbrev after_comma : List ℕ × Json → List ℕ
after_comma field = codes "," ++ field_text field

-- a field, and then what follows its value
one_prints : (k : List ℕ) (j : Json) (rest : List Token) (text : List ℕ) → print_from true rest ≡ text → quoted k ++ 58 ∷ [] ++ print_from false (json_tokens j ++ rest) ≡ field_text (k, j) ++ text
one_prints k j rest text is =
    ap (λ s. quoted k ++ 58 ∷ [] ++ s) (after_value j rest ∙ ap (λ s. compact j ++ s) is) ∙ sym (append_assoc (quoted k ++ 58 ∷ []) (compact j) text)

later_print : (fields : Fields) → print_from true (members_tokens (members_of fields)) ≡ flat_map after_comma fields ++ codes "}"
unfolding print_from
later_print [] = refl
later_print (field ∷ others) =
    ap (λ s. 44 ∷ s) (one_prints field.0 field.1 (members_tokens (members_of others)) _ (later_print others))
    ∙ sym (append_assoc (after_comma field) (flat_map after_comma others) (codes "}"))

first_print : (fields : Fields) → print_from false (members_tokens (members_of fields)) ≡ fields_text fields ++ codes "}"
unfolding print_from
first_print [] = refl
first_print (field ∷ others) =
    one_prints field.0 field.1 (members_tokens (members_of others)) _ (later_print others)
    ∙ sym (append_assoc (field_text field) (flat_map after_comma others) (codes "}"))

pub object_prints : (fields : Fields) → object_text fields ≡ codes "{" ++ (fields_text fields ++ codes "}")
unfolding print_from
object_prints fields = ap (λ s. 123 ∷ s) (first_print fields)

-- texts in other groups
regroup : (a b c d e : List ℕ) → a ++ b ++ (c ++ (d ++ e)) ≡ a ++ (b ++ c ++ d ++ e)
regroup a b c d e = simp append_assoc

regroup_quoted : (text k a b value z : List ℕ) → text ++ (k ++ (a ++ b)) ++ value ++ z ≡ text ++ (k ++ a ++ (b ++ (value ++ z)))
regroup_quoted text k a b value z = simp append_assoc

regroup_object : (text a inner z : List ℕ) → text ++ a ++ inner ++ z ≡ text ++ (a ++ (inner ++ z))
regroup_object text a inner z = simp append_assoc

regroup_property : (text comma name a value : List ℕ) → text ++ comma ++ name ++ a ++ value ≡ text ++ (comma ++ (name ++ a ++ value))
regroup_property text comma name a value = simp append_assoc

-- commas after fields, or before those that follow
commas_move : (fields : Fields) (last : List ℕ × Json) → flat_map after_comma (fields ++ last ∷ []) ≡ codes "," ++ (leading fields ++ field_text last)
commas_move [] last = append-nil (after_comma last)
commas_move (field ∷ others) last =
    ap (λ s. after_comma field ++ s) (commas_move others last) ∙ regroup (codes ",") (field_text field) (codes ",") (leading others) (field_text last)

pub last_follows : (fields : Fields) (last : List ℕ × Json) → fields_text (fields ++ last ∷ []) ≡ leading fields ++ field_text last
last_follows [] last = append-nil (field_text last)
last_follows (field ∷ others) last = ap (λ s. field_text field ++ s) (commas_move others last) ∙ regroup [] (field_text field) (codes ",") (leading others) (field_text last)

-- an object whose last field stands after the others
pub whole_object : (fields : Fields) (last : List ℕ × Json) → object_text (fields ++ last ∷ []) ≡ codes "{" ++ leading fields ++ (field_text last ++ codes "}")
whole_object fields last = object_prints (fields ++ last ∷ []) ∙ ap (λ s. codes "{" ++ (s ++ codes "}")) (last_follows fields last) ∙ ap (λ s. codes "{" ++ s) (append_assoc (leading fields) (field_text last) (codes "}"))
    ∙ sym (append_assoc (codes "{") (leading fields) (field_text last ++ codes "}"))

pub leading-append : (first second : Fields) → leading (first ++ second) ≡ leading first ++ leading second
leading-append first second = flat_map-append (λ field. field_text field ++ codes ",") first second

-- ---- a field as it is pushed: its name with what stands before its value, the value, and what stands after it

pub compact_string : (s : List ℕ) → compact (string s) ≡ quoted s
unfolding print_from
compact_string s = append-nil (quoted s)

pub compact_number : (s : List ℕ) → compact (number s) ≡ s
unfolding print_from
compact_number s = append-nil s

pub field_pushed : (k value text head first second : List ℕ) (j : Json) → compact j ≡ value → head ≡ quoted k ++ codes ":" → first ≡ text ++ head → second ≡ first ++ value → second ≡ text ++ field_text (k, j)
field_pushed k value text head first second j is head_is e₁ e₂ = rw (e₂, e₁, head_is, is) (append_assoc text (quoted k ++ codes ":") value)

pub comma_pushed : (text before after : List ℕ) (field : List ℕ × Json) → before ≡ text ++ field_text field → after ≡ before ++ codes "," → after ≡ text ++ leading (field ∷ [])
comma_pushed text before after field is e = rw (e, is) (append_assoc text (field_text field) (codes ",") ∙ ap (λ s. text ++ s) (sym (append-nil (field_text field ++ codes ","))))

-- a value that needs no escape, between quotes that are pushed with its name and after it
pub plain_pushed : (k value text head first second third : List ℕ) → escape value ≡ value → head ≡ quoted k ++ codes ":\"" → first ≡ text ++ head → second ≡ first ++ value → third ≡ second ++ codes "\""
    → third ≡ text ++ field_text (k, string value)
plain_pushed k value text head first second third plain head_is e₁ e₂ e₃ = rw (e₃, e₂, e₁, head_is, compact_string value, plain) (regroup_quoted text (quoted k) (codes ":") (codes "\"") value (codes "\""))

pub plain_comma_pushed : (k value text head first second third : List ℕ) → escape value ≡ value → head ≡ quoted k ++ codes ":\"" → first ≡ text ++ head → second ≡ first ++ value → third ≡ second ++ codes "\","
    → third ≡ text ++ leading ((k, string value) ∷ [])
plain_comma_pushed k value text head first second third plain head_is e₁ e₂ e₃ =
    comma_pushed text (second ++ codes "\"") third (k, string value) (plain_pushed k value text head first second (second ++ codes "\"") plain head_is e₁ e₂ refl)
    (e₃ ∙ sym (append_assoc second (codes "\"") (codes ",")))

pub quoted_comma_pushed : (k value text head first second third : List ℕ) → head ≡ quoted k ++ codes ":" → first ≡ text ++ head → second ≡ first ++ quoted value → third ≡ second ++ codes ","
    → third ≡ text ++ leading ((k, string value) ∷ [])
quoted_comma_pushed k value text head first second third head_is e₁ e₂ e₃ = comma_pushed text second third (k, string value) (field_pushed k (quoted value) text head first second (string value) (compact_string value) head_is e₁ e₂) e₃

pub number_comma_pushed : (k digits text head first second third : List ℕ) → head ≡ quoted k ++ codes ":" → first ≡ text ++ head → second ≡ first ++ digits → third ≡ second ++ codes ","
    → third ≡ text ++ leading ((k, number digits) ∷ [])
number_comma_pushed k digits text head first second third head_is e₁ e₂ e₃ = comma_pushed text second third (k, number digits) (field_pushed k digits text head first second (number digits) (compact_number digits) head_is e₁ e₂) e₃

pub named_number_pushed : (k digits text first second third fourth : List ℕ) → first ≡ text ++ quoted k → second ≡ first ++ codes ":" → third ≡ second ++ digits → fourth ≡ third ++ codes ","
    → fourth ≡ text ++ leading ((k, number digits) ∷ [])
named_number_pushed k digits text first second third fourth e₁ e₂ e₃ e₄ =
    number_comma_pushed k digits text (quoted k ++ codes ":") second third fourth refl (e₂ ∙ ap (λ s. s ++ codes ":") e₁ ∙ append_assoc text (quoted k) (codes ":")) e₃ e₄

-- a value whose beginning is pushed with its name
pub numbered_pushed : (k start value text head first second third : List ℕ) → escape (start ++ value) ≡ start ++ value → head ≡ quoted k ++ codes ":\"" ++ start → first ≡ text ++ head → second ≡ first ++ value
    → third ≡ second ++ codes "\"" → third ≡ text ++ field_text (k, string (start ++ value))
numbered_pushed k start value text head first second third plain head_is e₁ e₂ e₃ =
    plain_pushed k (start ++ value) text (quoted k ++ codes ":\"") (text ++ (quoted k ++ codes ":\"")) second third plain refl refl
    (e₂ ∙ ap (λ s. s ++ value) (e₁ ∙ ap (λ s. text ++ s) head_is ∙ sym (append_assoc text (quoted k ++ codes ":\"") start)) ∙ append_assoc (text ++ (quoted k ++ codes ":\"")) start value) e₃

-- the last field, and the end of the object
pub last_pushed : (k value text head first second third : List ℕ) → head ≡ quoted k ++ codes ":" → first ≡ text ++ head → second ≡ first ++ quoted value → third ≡ second ++ codes "}"
    → third ≡ text ++ (field_text (k, string value) ++ codes "}")
last_pushed k value text head first second third head_is e₁ e₂ e₃ =
    e₃ ∙ ap (λ s. s ++ codes "}") (field_pushed k (quoted value) text head first second (string value) (compact_string value) head_is e₁ e₂) ∙ append_assoc text (field_text (k, string value)) (codes "}")

-- an object of fields, pushed between its braces
pub object_pushed : (text first second third : List ℕ) (fields : Fields) → first ≡ text ++ codes "{" → second ≡ first ++ fields_text fields → third ≡ second ++ codes "}" → third ≡ text ++ object_text fields
object_pushed text first second third fields e₁ e₂ e₃ = rw (e₃, e₂, e₁, object_prints fields) (regroup_object text (codes "{") (fields_text fields) (codes "}"))

-- a property: a comma unless it is the first, its name and its value
pub property_pushed : (name value text comma first second third fourth : List ℕ) → first ≡ text ++ comma → second ≡ first ++ quoted name → third ≡ second ++ codes ":" → fourth ≡ third ++ quoted value
    → fourth ≡ text ++ (comma ++ field_text (name, string value))
property_pushed name value text comma first second third fourth e₁ e₂ e₃ e₄ = rw (e₄, e₃, e₂, e₁, compact_string value) (regroup_property text comma (quoted name) (codes ":") (quoted value))

-- ---- an object as it grows

pub follow : (first fields more : Fields) (before after : List ℕ) → before ≡ codes "{" ++ leading (first ++ fields) → after ≡ before ++ leading more → after ≡ codes "{" ++ leading (first ++ (fields ++ more))
follow first fields more before after is e =
    rw (e, is) (append_assoc (codes "{") (leading (first ++ fields)) (leading more) ∙ ap (λ s. codes "{" ++ s) (sym (leading-append (first ++ fields) more) ∙ ap leading (append_assoc first fields more)))

pub finish : (first fields : Fields) (last : List ℕ × Json) (before after : List ℕ) → before ≡ codes "{" ++ leading (first ++ fields) → after ≡ before ++ (field_text last ++ codes "}")
    → after ≡ object_text (first ++ (fields ++ last ∷ []))
finish first fields last before after is e = rw (e, is) (sym (whole_object (first ++ fields) last) ∙ ap object_text (append_assoc first fields (last ∷ [])))

pub leading_two : (text : List ℕ) (a b : List ℕ × Json) (first second : List ℕ) → first ≡ text ++ leading (a ∷ []) → second ≡ first ++ leading (b ∷ []) → second ≡ text ++ leading (a ∷ b ∷ [])
leading_two text a b first second e₁ e₂ = rw (e₂, e₁) (append_assoc text (leading (a ∷ [])) (leading (b ∷ [])) ∙ ap (λ s. text ++ s) (sym (leading-append (a ∷ []) (b ∷ []))))

pub leading_three_parts : (text : List ℕ) (a b c : Fields) (first second third : List ℕ) → first ≡ text ++ leading a → second ≡ first ++ leading b → third ≡ second ++ leading c → third ≡ text ++ leading (a ++ (b ++ c))
leading_three_parts text a b c first second third e₁ e₂ e₃ =
    rw (e₃, e₂, e₁)
    (append_assoc (text ++ leading a) (leading b) (leading c) ∙ append_assoc text (leading a) (leading b ++ leading c)
    ∙ ap (λ s. text ++ s) (ap (λ s. leading a ++ s) (sym (leading-append b c)) ∙ sym (leading-append a (b ++ c))))

pub brace_after : (text field first second : List ℕ) → first ≡ text ++ field → second ≡ first ++ codes "}" → second ≡ text ++ (field ++ codes "}")
brace_after text field first second e₁ e₂ = rw (e₂, e₁) (append_assoc text field (codes "}"))

-- ---- one more field, with a comma before it unless it is the first

abbrev pub has_none : Fields → Bool
has_none [] = true
has_none (field ∷ others) = false

pub one_more : (fields : Fields) (field : List ℕ × Json) (is_first : Bool) → is_first ≡ has_none fields
    → fields_text (fields ++ field ∷ []) ≡ fields_text fields ++ ((if is_first then [] else codes ",") ++ field_text field)
one_more [] field is_first is = rw (is, append-nil) refl
one_more (first ∷ others) field is_first is =
    rw (is, flat_map-append after_comma others (field ∷ []), append-nil (after_comma field)) (sym (append_assoc (field_text first) (flat_map after_comma others) (after_comma field)))

pub next_written : (fields : Fields) (field : List ℕ × Json) (is_first : Bool) (start before after : List ℕ)
    → is_first ≡ has_none fields → before ≡ start ++ fields_text fields
    → after ≡ before ++ ((if is_first then [] else codes ",") ++ field_text field)
    → after ≡ start ++ fields_text (fields ++ field ∷ [])
next_written fields field is_first start before after is earlier later =
    rw (later, earlier, one_more fields field is_first is) (append_assoc start (fields_text fields) ((if is_first then [] else codes ",") ++ field_text field))

pub none_after_one : (fields : Fields) (field : List ℕ × Json) → false ≡ has_none (fields ++ field ∷ [])
none_after_one [] field = refl
none_after_one (first ∷ others) field = refl

-- ---- reading back

pub reads_back : (fields : Fields) → MembersHaveNumbers (members_of fields) → members_depth (members_of fields) ≤ 127 → document (object_text fields) ≡ Some (object_with fields)
reads_back fields numbers shallow = document-print (object_with fields) numbers (omega arith)

-- how long a property is, with what stands before it
pub property_length : (before name value : List ℕ) → length (before ++ field_text (property_field (name, value))) ≡ length before + length (quoted name) + 1 + length (quoted value)
property_length before name value = omega (
  arith,
  length-append before (field_text (property_field (name, value))),
  length-append (quoted name ++ codes ":") (compact (string value)),
  length-append (quoted name) (codes ":"),
  ap length (compact_string value),
)

-- how long an object is whose fields are written
pub object_length : (fields : Fields) → length (object_text fields) ≡ 1 + length (fields_text fields) + 1
object_length fields = omega (arith, ap length (object_prints fields), length-append (fields_text fields) (codes "}"))
