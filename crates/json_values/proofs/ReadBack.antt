-- Properties are read back from the object that is written for them.
use Rattle.std.proofs.Common.{◌≡◌, ℕ, All, ◌+◌, ◌*◌, ◌≤◌, true, IsTrue, List, [], ◌∷◌, ◌++◌, length, length-append, map, flat_map, count_by, nat_le, nat_cmp, Less, Greater, Some, option_and_then, refl, sym, ap, subst, ◌∙◌, append_assoc, append-nil, arith}
use Rattle.std.specs.Cmp.Lexicographic.{slice_cmp}
use Rattle.std.specs.List.{AllByRecursion, AllPass, list_all}
use Rattle.std.specs.List.Sorted.{IsStrictlySortedBy}
use Rattle.std.specs.Ordering.{ordering_reverse}
use Rattle.std.specs.Prelude.{codes}
use Rattle.std.specs.Str.{IsUtf8}
use Rattle.std.proofs.lemmas.Cmp.{nat_list_cmp_total}
use Rattle.std.proofs.lemmas.List.Elements.{All-head, All-tail}
use Rattle.std.proofs.lemmas.Str.{IsUtf8-append, IsUtf8-nil}
use Rattle.std.proofs.lemmas.List.Sums.{AllPass-from_list_all}
use Rattle.json.specs.Json as json
use Rattle.json.specs.Tree.{MembersHaveNumbers, members_depth, json_tokens}
use Rattle.json.proofs.Printed.Tokens.{tokens-print}
use Rattle.json.proofs.Printed.Utf8.{IsUtf8-are_ascii, IsUtf8-key, IsUtf8-quoted}
use Rattle.json.proofs.Printed.Trees.{ArePrintable-json_tokens, value-json_tokens}
use Rattle.serde_json.specs.Data.{string, object, Members, no_members, member, put}
use Rattle.serde_json.specs.Read.{of_json, of_members, read}
use Rattle.position_core.specs.Name.{name_order}
use Rattle.position_core.specs.Properties.{fits, are_properties}
use Rattle.json_values.specs.Escapes.{needs_escape}
use Rattle.json_values.specs.Fields.{pairs_in, properties_of}
use Rattle.json_values.specs.Objects.{object_of}
use Rattle.json_values.specs.Written.{AreProperties, field_text, fields_text, members_of, object_text, object_with, property_field, property_fields}
use Rattle.json_values.proofs.Lengths.{both, property_room}
use Rattle.json_values.proofs.Pairs.{Pairs}
use Rattle.json_values.proofs.Parsed.{object_read}
use Rattle.json_values.proofs.Written.{compact_string, object_length, object_prints}

-- ---- the text is short

abbrev after_comma : List ℕ × List ℕ → List ℕ
after_comma property = codes "," ++ field_text (property_field property)

one_within : (property : List ℕ × List ℕ) → fits property ≡ true → length (after_comma property) ≤ 7680
one_within property fit =
    let name = property.0 in
    let value = property.1 in
    let room = property_room name value (length name + 5 * count_by needs_escape name + 2) (length value + 5 * count_by needs_escape value + 2) fit (λ _. refl) (λ _. refl) in
    omega (arith, room.0, room.1)

later_within : (properties : Pairs) → AllPass fits properties → length (flat_map (λ other. codes "," ++ field_text other) (property_fields properties)) ≤ 7680 * length properties
later_within [] each = omega arith
later_within (first ∷ others) each =
    let one = one_within first (All-head (λ p. fits p ≡ true) first others each) in
    let more = later_within others (All-tail (λ p. fits p ≡ true) first others each) in
    omega (arith, one, more, length-append (after_comma first) (flat_map (λ other. codes "," ++ field_text other) (property_fields others)))

fields_within : (properties : Pairs) → AllPass fits properties → length (fields_text (property_fields properties)) ≤ 7680 * length properties
fields_within [] each = omega arith
fields_within (first ∷ others) each =
    let one = one_within first (All-head (λ p. fits p ≡ true) first others each) in
    let more = later_within others (All-tail (λ p. fits p ≡ true) first others each) in
    omega (arith, one, more, length-append (field_text (property_field first)) (flat_map (λ other. codes "," ++ field_text other) (property_fields others)))

short : (properties : Pairs) → IsTrue (are_properties properties) → length (object_text (property_fields properties)) ≤ 2097152
short properties are =
    let limits = both (nat_le (length properties) 64) (list_all fits properties) are in
    let few : length properties ≤ 64 = search (arith, limits.0) in
    omega (arith, few, object_length (property_fields properties), fields_within properties (AllPass-from_list_all fits properties limits.1))

-- ---- the text is the object

-- each property as a member, in order
abbrev said : Pairs → Members
said [] = no_members
said (first ∷ others) = member first.0 (string first.1) (said others)

pub no_numbers : (properties : Pairs) → MembersHaveNumbers (members_of (property_fields properties))
no_numbers [] = tt
no_numbers (first ∷ others) = (tt, no_numbers others)

pub flat : (properties : Pairs) → members_depth (members_of (property_fields properties)) ≡ 0
flat [] = refl
flat (first ∷ others) = rw (flat others) refl

reads : (properties : Pairs) → read (object_text (property_fields properties)) ≡ of_json (object_with (property_fields properties))
reads properties =
    let j = object_with (property_fields properties) in
    ap (λ o. option_and_then of_json (option_and_then (λ p. json.if_last p.0 p.1) o))
    (ap (json.value 127) (tokens-print (json_tokens j) (ArePrintable-json_tokens j (no_numbers properties)) ∙ sym (append-nil (json_tokens j)))
    ∙ value-json_tokens j 127 [] (omega (arith, flat properties)))

below_middle : (name : List ℕ) (done : Pairs) (p : List ℕ × List ℕ) (more : Pairs) → AllByRecursion (λ n. name_order name n ≡ Less) (map (λ q. q.0) (done ++ p ∷ more)) → name_order name p.0 ≡ Less
below_middle name [] p more h = h.0
below_middle name (first ∷ done) p more h = below_middle name done p more h.1

-- a name that is above those before it goes last
put_last : (done : Pairs) (p : List ℕ × List ℕ) (more : Pairs) → IsStrictlySortedBy name_order (map (λ q. q.0) (done ++ p ∷ more)) → put p.0 (string p.1) (said done) ≡ said (done ++ p ∷ [])
unfolding IsStrictlySortedBy
put_last [] p more rising = refl
put_last (first ∷ done) p more rising =
    let above : slice_cmp nat_cmp p.0 first.0 ≡ Greater = nat_list_cmp_total.antisymm p.0 first.0 ∙ ap ordering_reverse (below_middle first.0 done p more rising.0) in
    rw above (ap (member first.0 (string first.1)) (put_last done p more rising.1))

all_put : (done more : Pairs) → IsStrictlySortedBy name_order (map (λ q. q.0) (done ++ more)) → of_members (members_of (property_fields more)) (said done) ≡ Some (said (done ++ more))
all_put done [] rising = ap (λ ps. Some (said ps)) (sym (append-nil done))
all_put done (p ∷ more) rising =
    let same : (done ++ p ∷ []) ++ more ≡ done ++ p ∷ more = append_assoc done (p ∷ []) more in
    let rising_still = subst (λ ps. IsStrictlySortedBy name_order (map (λ q. q.0) ps)) (sym same) rising in
    ap (of_members (members_of (property_fields more))) (put_last done p more rising)
    ∙ all_put (done ++ p ∷ []) more rising_still
    ∙ ap (λ ps. Some (said ps)) same

pairs_said : (properties : Pairs) → pairs_in (said properties) ≡ Some properties
pairs_said [] = refl
pairs_said (first ∷ others) = rw (pairs_said others) refl

object_said : (properties : Pairs) → IsTrue (are_properties properties) → properties_of (object (said properties)) ≡ Some properties
object_said properties are = rw (pairs_said properties, are) refl

-- the object that is written for properties says them
pub properties_said : (text : List ℕ) (properties : Pairs) → IsUtf8 text → AreProperties properties → text ≡ object_text (property_fields properties) → option_and_then properties_of (object_of text) ≡ Some properties
properties_said text properties utf8 are is =
    let from : read text ≡ Some (object (said properties)) = ap read is ∙ reads properties ∙ rw (all_put [] properties are.rising) refl in
    let few : length text ≤ 2097152 = rw is (short properties are.within) in
    rw (object_read text (object (said properties)) few utf8 from refl) (object_said properties are.within)

-- ---- the text is UTF-8, where the names and the values are

field_utf8 : (property : List ℕ × List ℕ) → IsUtf8 property.0 × IsUtf8 property.1 → IsUtf8 (field_text (property_field property))
field_utf8 property texts = rw (compact_string property.1) (IsUtf8-append _ _ (IsUtf8-key property.0 texts.0) (IsUtf8-quoted property.1 texts.1))

later_utf8 : (properties : Pairs) → All (λ p. IsUtf8 p.0 × IsUtf8 p.1) properties → IsUtf8 (flat_map (λ other. codes "," ++ field_text other) (property_fields properties))
later_utf8 [] texts = IsUtf8-nil
later_utf8 (first ∷ others) texts =
    let one = field_utf8 first (All-head (λ p. IsUtf8 p.0 × IsUtf8 p.1) first others texts) in
    let more = later_utf8 others (All-tail (λ p. IsUtf8 p.0 × IsUtf8 p.1) first others texts) in
    IsUtf8-append _ _ (IsUtf8-append (codes ",") _ (IsUtf8-are_ascii (codes ",") refl) one) more

fields_utf8 : (properties : Pairs) → All (λ p. IsUtf8 p.0 × IsUtf8 p.1) properties → IsUtf8 (fields_text (property_fields properties))
fields_utf8 [] texts = IsUtf8-nil
fields_utf8 (first ∷ others) texts =
    let one = field_utf8 first (All-head (λ p. IsUtf8 p.0 × IsUtf8 p.1) first others texts) in
    IsUtf8-append _ _ one (later_utf8 others (All-tail (λ p. IsUtf8 p.0 × IsUtf8 p.1) first others texts))

pub object_utf8 : (properties : Pairs) → All (λ p. IsUtf8 p.0 × IsUtf8 p.1) properties → IsUtf8 (object_text (property_fields properties))
object_utf8 properties texts =
    let inner = IsUtf8-append _ (codes "}") (fields_utf8 properties texts) (IsUtf8-are_ascii (codes "}") refl) in
    rw (object_prints (property_fields properties)) (IsUtf8-append (codes "{") _ (IsUtf8-are_ascii (codes "{") refl) inner)
