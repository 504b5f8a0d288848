-- How long properties are as they are written, one after the other.
use Rattle.std.proofs.Common.{◌≡◌, ℕ, All, ◌+◌, ◌*◌, ◌^◌, ◌<◌, ◌≤◌, Bool, true, false, cond, ◌&&◌, IsTrue, refl, count_by, nat_lt, nat_le, List, [], ◌∷◌, ◌++◌, length, length-append, map, flat_map, Option, Some, Result, Ok, Err, OnErr, String, Global, string_bytes, sym, ap, subst, ◌∙◌, append_assoc, arith}
use Rattle.std.specs.Prelude.{codes, if◌then◌else◌}
use Rattle.std.specs.Borrow.{Bor}
use Rattle.std.specs.Iterator.{Yields}
use Rattle.std.specs.List.{AllPass, list_all}
use Rattle.std.specs.Map.Iter.{TakesFirst, deref_pair}
use Rattle.std.proofs.lemmas.Grind.{flat_map-append}
use Rattle.std.proofs.lemmas.List.{map-append, length-map}
use Rattle.std.proofs.lemmas.List.Elements.{All-head, All-tail}
use Rattle.std.proofs.lemmas.Map.Iter.{rest_more, rest_so_far, iter_turn}
use Rattle.std.proofs.lemmas.List.Sums.{sum_by-cons, count_by-le-length, AllPass-from_list_all}
use Rattle.json.specs.Json.{Json}
use Rattle.json.specs.Print.{escape, escape_byte, escape_letter, quoted}
use Rattle.position_core.specs.Properties.{fits, are_properties}
use Rattle.json_values.specs.Escapes.{needs_escape}
use Rattle.json_values.proofs.Escapes.{plain_byte}
use Rattle.json_values.specs.Written.{field_text, fields_text, property_field, property_fields}
use Rattle.json_values.proofs.Written.{Fields, has_none, one_more, property_length}

-- one more is as long as its text, with a comma before it unless it is the first
pub one_longer : (fields : Fields) (field : List ℕ × Json) (is_first : Bool) → is_first ≡ has_none fields
    → length (fields_text (fields ++ field ∷ [])) ≡ length (fields_text fields) + length ((if is_first then [] else codes ",") ++ field_text field)
one_longer fields field is_first is = ap length (one_more fields field is_first is) ∙ length-append (fields_text fields) ((if is_first then [] else codes ",") ++ field_text field)

-- some of them are no longer than all
some_within : (fields more : Fields) → length (fields_text fields) ≤ length (fields_text (fields ++ more))
some_within [] more = omega arith
some_within (first ∷ others) more =
    let after = λ (other : List ℕ × Json). codes "," ++ field_text other in
    omega (arith, ap length (flat_map-append after others more), length-append (flat_map after others) (flat_map after more), length-append (field_text first) (flat_map after others), length-append (field_text first) (flat_map after (others ++ more)))

abbrev pair_of : String Global × String Global → List ℕ × List ℕ
pair_of e = (string_bytes e.0, string_bytes e.1)

abbrev pub written : List (String Global × String Global) → List ℕ
written entries = fields_text (property_fields (map pair_of entries))

-- what a loop over a map has yielded, and the next entry, are no longer than all entries
pub next_within : (all : List (String Global × String Global)) (xs : List (Bor (String Global) × Bor (String Global))) (s t u : List (String Global × String Global)) (r : Option (Bor (String Global) × Bor (String Global))) → s ≡ all
    → Yields (TakesFirst deref_pair) s xs t → (x : Bor (String Global) × Bor (String Global)) → r ≡ Some x → TakesFirst deref_pair t r u
    → length (fields_text (property_fields (map pair_of (map deref_pair xs)) ++ property_field (pair_of (deref_pair x)) ∷ [])) ≤ length (written all)
next_within all xs s t u r start yielded x is step =
    let before = property_fields (map pair_of (map deref_pair xs)) in
    let next = property_field (pair_of (deref_pair x)) ∷ [] in
    let later = property_fields (map pair_of u) in
    let splits : all ≡ map deref_pair xs ++ deref_pair x ∷ u = sym start ∙ rest_so_far deref_pair xs s t yielded ∙ ap (λ l. map deref_pair xs ++ l) (rest_more deref_pair t u r x is step) in
    let fields : property_fields (map pair_of all) ≡ (before ++ next) ++ later =
    ap (λ l. property_fields (map pair_of l)) splits ∙ ap property_fields (map-append pair_of (map deref_pair xs) (deref_pair x ∷ u)) ∙ map-append property_field (map pair_of (map deref_pair xs)) (map pair_of (deref_pair x ∷ u))
    ∙ sym (append_assoc before next later) in
    subst (λ fs. length (fields_text (before ++ next)) ≤ length (fields_text fs)) (sym fields) (some_within (before ++ next) later)

pub on_err : {A E : Type 0} {P : Type 0} (r : Result A E) → P → OnErr r P
on_err (Ok a) p = tt
on_err (Err e) p = p

-- ---- the room that is enough

pick : (a b : Bool) (xs ys zs : List ℕ) → length xs ≤ 6 → length ys ≤ 6 → length zs ≤ 6 → length (cond a xs (cond b ys zs)) ≤ 6
pick true b xs ys zs p q r = p
pick false true xs ys zs p q r = q
pick false false xs ys zs p q r = r

byte_within : (byte : ℕ) → length (escape_byte byte) ≤ 6
unfolding escape_byte
byte_within byte = pick (nat_lt 0 (escape_letter byte)) (nat_lt byte 32) _ _ _ (omega arith) (omega arith) (omega arith)

byte_length : (special : Bool) (byte : ℕ) → needs_escape byte ≡ special → length (escape_byte byte) ≤ 1 + 5 * cond special 1 0
byte_length true byte is = omega (arith, byte_within byte)
byte_length false byte is = omega (arith, ap length (plain_byte byte is))

escape_length : (s : List ℕ) → length (escape s) ≤ length s + 5 * count_by needs_escape s
escape_length [] = omega arith
escape_length (x ∷ xs) = omega (arith, length-append (escape_byte x) (escape xs), escape_length xs, byte_length (needs_escape x) x refl, sum_by-cons (λ y. cond (needs_escape y) 1 0) x xs)

quoted_length : (s : List ℕ) → length (quoted s) ≤ length s + 5 * count_by needs_escape s + 2
quoted_length s = omega (arith, escape_length s, length-append (escape s) (34 ∷ []))

pub both : (a b : Bool) → (a && b) ≡ true → (a ≡ true) × (b ≡ true)
both true b h = (refl, h)
both false b h = absurd cc

fits_bounds : (name value : List ℕ) → IsTrue (fits (name, value)) → (length name ≤ 255) × (length value ≤ 1024)
fits_bounds name value h = let two = both (nat_le (length name) 255) (nat_le (length value) 1024) h in (search (arith, two.0), search (arith, two.1))

-- a property whose name and value fit takes no more than this
pub property_room : (name value : List ℕ) (a b : ℕ) → IsTrue (fits (name, value)) → (length name < 2 ^ 60 → a ≡ length name + 5 * count_by needs_escape name + 2) → (length value < 2 ^ 60 → b ≡ length value + 5 * count_by needs_escape value + 2)
    → (length (field_text (property_field (name, value))) + 1 ≤ a + b + 2) × (a + b + 2 ≤ 7680)
property_room name value a b h first second =
    let bounds = fits_bounds name value h in
    let one = first (omega (arith, bounds.0)) in
    let two = second (omega (arith, bounds.1)) in
    let long = property_length [] name value in
    let n = quoted_length name in
    let v = quoted_length value in
    let few = count_by-le-length needs_escape name in
    let fewer = count_by-le-length needs_escape value in
    (omega (arith, one, two, long, n, v), omega (arith, one, two, bounds.0, bounds.1, few, fewer))

at_most_one : (is_first : Bool) → length (if is_first then [] else codes ",") ≤ 1
at_most_one true = omega arith
at_most_one false = omega arith

-- one more takes its text and a comma
pub one_more_room : (fields : Fields) (field : List ℕ × Json) (room one : ℕ) → 2 + length (fields_text fields) ≤ room → length (field_text field) + 1 ≤ one → 2 + length (fields_text (fields ++ field ∷ [])) ≤ room + one
one_more_room fields field room one so_far next =
    omega (arith, so_far, next, one_longer fields field (has_none fields) refl, length-append (if has_none fields then [] else codes ",") (field_text field), at_most_one (has_none fields))

middle : {X : Type 0} (P : X → Type 0) (before : List X) (y : X) (later : List X) → All P (before ++ y ∷ later) → P y
middle P [] y later h = All-head P y later h
middle P (b ∷ bs) y later h = middle P bs y later (All-tail P b (bs ++ y ∷ later) h)

-- the next entry of a loop over properties fits, and there are not too many before it
pub next_fits : (all : List (String Global × String Global)) (xs : List (Bor (String Global) × Bor (String Global))) (s t u : List (String Global × String Global)) (r : Option (Bor (String Global) × Bor (String Global))) → s ≡ all
    → Yields (TakesFirst deref_pair) s xs t → (x : Bor (String Global) × Bor (String Global)) → r ≡ Some x → TakesFirst deref_pair t r u → IsTrue (are_properties (map pair_of all))
    → IsTrue (fits (pair_of (deref_pair x))) × (length xs < 64)
next_fits all xs s t u r start yielded x is step within =
    let before = map pair_of (map deref_pair xs) in
    let splits : all ≡ map deref_pair xs ++ deref_pair x ∷ u = sym start ∙ rest_so_far deref_pair xs s t yielded ∙ ap (λ l. map deref_pair xs ++ l) (rest_more deref_pair t u r x is step) in
    let pairs : map pair_of all ≡ before ++ pair_of (deref_pair x) ∷ map pair_of u = ap (map pair_of) splits ∙ map-append pair_of (map deref_pair xs) (deref_pair x ∷ u) in
    let limits = both (nat_le (length (map pair_of all)) 64) (list_all fits (map pair_of all)) within in
    let each = AllPass-from_list_all fits (map pair_of all) limits.1 in
    let turn = iter_turn deref_pair all xs s t u r start yielded x is step in
    let many : length (map pair_of all) ≤ 64 = search (arith, limits.0) in
    (middle (λ p. fits p ≡ true) before (pair_of (deref_pair x)) (map pair_of u) (subst (AllPass fits) pairs each), omega (arith, turn.0, many, length-map all pair_of))
