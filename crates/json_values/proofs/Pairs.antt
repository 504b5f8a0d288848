-- The properties of an object, taken over one after another in the order of their names.
use Rattle.std.proofs.Common.{◌≡◌, ℕ, List, [], ◌∷◌, ◌++◌, map, true, false, Option, Some, None, Ok, String, Global, Ordering, Less, Equal, Greater, string_bytes, string_cmp, nat_cmp, refl, sym, ap, ◌∙◌}
use Rattle.std.proofs.lemmas.Cmp.{nat_list_cmp_total}
use Rattle.std.specs.Cmp.Lexicographic.{slice_cmp}
use Rattle.std.specs.List.{AllByRecursion}
use Rattle.std.specs.List.Sorted.{IsStrictlySortedBy}
use Rattle.std.specs.Map.{keys_of}
use Rattle.std.specs.Ordering.{match_ordering, ordering_reverse}
use Rattle.std.specs.BTreeMap.{insert_entry}
use Rattle.std.specs.Prelude.{is_some}
use Rattle.serde_json.specs.Data.{Data}
use Rattle.serde_json.specs.Find.{as_null}
use Rattle.serde_json.specs.View.{view, members_view}
use Rattle.serde_json.proofs.Views.{Entry}
use Rattle.json_values.specs.Fields.{Said, absent, other_form, says, if_read, optional, pairs_in, said_by, value_of, with_property}
use Rattle.std.proofs.lemmas.List.{append-nil}

abbrev pub Pairs : Type 0
Pairs = List (List ℕ × List ℕ)

abbrev pair : String Global × String Global → List ℕ × List ℕ
pair e = (string_bytes e.0, string_bytes e.1)

map_match : (o : Ordering) (a b c : List (String Global × String Global)) → map pair (match_ordering o a b c) ≡ match_ordering o (map pair a) (map pair b) (map pair c)
map_match Less a b c = refl
map_match Equal a b c = refl
map_match Greater a b c = refl

pub pairs-insert_entry : (es : List (String Global × String Global)) (k v : String Global)
    → map pair (insert_entry string_cmp es k v) ≡ insert_entry (slice_cmp nat_cmp) (map pair es) (string_bytes k) (string_bytes v)
pairs-insert_entry [] k v = refl
pairs-insert_entry (e ∷ es) k v = map_match (string_cmp k e.0) _ _ _ ∙ rw (pairs-insert_entry es k v)

abbrev both : Option Pairs → Option Pairs → Option Pairs
both None second = None
both (Some first) None = None
both (Some first) (Some second) = Some (first ++ second)

both_nil : (second : Option Pairs) → second ≡ both (Some []) second
both_nil None = refl
both_nil (Some second) = refl

both_with : (name : List ℕ) (said : Said (List ℕ)) (first second : Option Pairs) → with_property name said (both first second) ≡ both (with_property name said first) second
both_with name other_form first second = refl
both_with name absent first second = refl
both_with name (says value) None second = refl
both_with name (says value) (Some first) None = refl
both_with name (says value) (Some first) (Some second) = refl

pairs_append : (first second : List Entry) → pairs_in (members_view (first ++ second)) ≡ both (pairs_in (members_view first)) (pairs_in (members_view second))
pairs_append [] second = both_nil _
pairs_append (e ∷ first) second = rw (pairs_append first second) (both_with (string_bytes e.0) (said_by value_of (view e.1)) _ _)

below_middle : (first : Entry) (done : List Entry) (e : Entry) (more : List Entry) → AllByRecursion (λ y. string_cmp first.0 y ≡ Less) (keys_of (done ++ e ∷ more)) → string_cmp first.0 e.0 ≡ Less
below_middle first [] e more h = h.0
below_middle first (x ∷ done) e more h = below_middle first done e more h.1

last_step : (said : Said (List ℕ)) (others : Option Pairs) (pairs : Pairs) (name key value : List ℕ) → with_property name said others ≡ Some pairs → slice_cmp nat_cmp key name ≡ Greater
    → ((later : Pairs) → others ≡ Some later → insert_entry (slice_cmp nat_cmp) later key value ≡ later ++ (key, value) ∷ []) → insert_entry (slice_cmp nat_cmp) pairs key value ≡ pairs ++ (key, value) ∷ []
last_step other_form others pairs name key value is above more = absurd (cc)
last_step absent others pairs name key value is above more = more pairs is
last_step (says first) None pairs name key value is above more = absurd (cc)
last_step (says first) (Some later) pairs name key value is above more =
    let whole : pairs ≡ (name, first) ∷ later = cc in
    rw (whole, above) (ap (λ ps. (name, first) ∷ ps) (more later refl))

-- a name that is above those before it goes last
insert_last : (done : List Entry) (e : Entry) (more : List Entry) (pairs : Pairs) (value : List ℕ) → IsStrictlySortedBy string_cmp (keys_of (done ++ e ∷ more))
    → pairs_in (members_view done) ≡ Some pairs → insert_entry (slice_cmp nat_cmp) pairs (string_bytes e.0) value ≡ pairs ++ (string_bytes e.0, value) ∷ []
unfolding IsStrictlySortedBy
insert_last [] e more pairs value sorted are =
    let none : pairs ≡ [] = cc in
    rw none refl
insert_last (first ∷ done) e more pairs value sorted are =
    let above : slice_cmp nat_cmp (string_bytes e.0) (string_bytes first.0) ≡ Greater =
    nat_list_cmp_total.antisymm (string_bytes e.0) (string_bytes first.0) ∙ ap ordering_reverse (below_middle first done e more sorted.0) in
    last_step (said_by value_of (view first.1)) (pairs_in (members_view done)) pairs (string_bytes first.0) (string_bytes e.0) value are above (λ later is. insert_last done e more later value sorted.1 is)

-- what the pairs become by what one more value says
abbrev pub with_said : List ℕ → Option (List ℕ) → Pairs → Pairs
with_said name None pairs = pairs
with_said name (Some value) pairs = insert_entry (slice_cmp nat_cmp) pairs name value

-- what a field says that may be absent
abbrev pub said_of : Option (List ℕ) → Said (List ℕ)
said_of None = absent
said_of (Some value) = says value

pub said_from : (said : Said (List ℕ)) (found : Option (List ℕ)) → optional said ≡ Ok found → said ≡ said_of found
said_from absent found is = let same : found ≡ None = cc in rw same refl
said_from other_form found is = cc
said_from (says value) found is = let same : found ≡ Some value = cc in rw same refl

one_more : (said : Option (List ℕ)) (done : List Entry) (e : Entry) (more : List Entry) (pairs : Pairs) → IsStrictlySortedBy string_cmp (keys_of (done ++ e ∷ more)) → pairs_in (members_view done) ≡ Some pairs
    → both (Some pairs) (with_property (string_bytes e.0) (said_of said) (Some [])) ≡ Some (with_said (string_bytes e.0) said pairs)
one_more None done e more pairs sorted are = ap Some (append-nil pairs)
one_more (Some value) done e more pairs sorted are = ap Some (sym (insert_last done e more pairs value sorted are))

pub next_taken : (said : Option (List ℕ)) (done : List Entry) (e : Entry) (more : List Entry) (before after : Pairs) → IsStrictlySortedBy string_cmp (keys_of (done ++ e ∷ more))
    → pairs_in (members_view done) ≡ Some before → said_by value_of (view e.1) ≡ said_of said → after ≡ with_said (string_bytes e.0) said before → pairs_in (members_view (done ++ e ∷ [])) ≡ Some after
next_taken said done e more before after sorted are is later = pairs_append done (e ∷ []) ∙ rw (are, is, later) (one_more said done e more before sorted are)

pub none_taken : (done : List Entry) (e : Entry) (more : List Entry) (before : Pairs) → pairs_in (members_view done) ≡ Some before → said_by value_of (view e.1) ≡ other_form → pairs_in (members_view (done ++ e ∷ more)) ≡ None
none_taken done e more before are is = pairs_append done (e ∷ more) ∙ rw (are, is) refl

pub null_said : (d : Data) → true ≡ is_some (as_null d) → said_by value_of d ≡ absent
null_said d null = rw (sym null) refl

pub value_said : (d : Data) (found : Option (List ℕ)) → false ≡ is_some (as_null d) → found ≡ value_of d → said_by value_of d ≡ if_read found
value_said d found not_null is = rw (sym not_null, sym is) refl
