-- A query of which a part was read.
use Rattle.std.proofs.Common.{◌≡◌, ℕ, List, [], ◌∷◌, ◌++◌, map, Bool, true, false, cond, Some, None, refl, ap, inl, inr, append-nil}
use Rattle.std.specs.Prelude.{◌⊎◌, ◌&&◌, Ok, Err, ok_or}
use Rattle.std.specs.List.{list_all}
use Rattle.std.specs.Str.{is_utf8}
use Rattle.std.proofs.lemmas.List.Folds.{list_all-append}
use Rattle.form_urlencoded.specs.Form.{decode, parse, raw_pairs}
use Rattle.endpoint_core.specs.declared.faults.Cause.{Cause}
use Rattle.endpoint_core.specs.declared.faults.Cause.TheVariants.{BadParameter, NoMemory}
use Rattle.endpoint_core.specs.declared.fields.Field.TheVariants.{Query}
use Rattle.endpoint_core.specs.Queries.{Parameter, is_text, word_of, parameters_of}

abbrev pub decoded : Parameter → Parameter
decoded pair = (decode pair.0, decode pair.1)

-- what was read is what stands before the pairs that are left
pub record IsRead (text : List ℕ) (query left : List Parameter) : Type 0 where
  pub all : list_all is_text query ≡ true
  pub whole : parse text ≡ query ++ map decoded left

pub begun : (text : List ℕ) (query left : List Parameter) → query ≡ [] → left ≡ raw_pairs text → IsRead text query left
begun text query left none is = record { all = rw none refl; whole = rw (none, is) refl }

pub ended : (text : List ℕ) (query left : List Parameter) → IsRead text query left → left ≡ [] → parameters_of text ≡ Ok query
ended text query left read none =
    let same : parse text ≡ query = rw (none, append-nil) at read.whole in
    rw (same, read.all) refl

word : (b : Bool) (bytes said : List ℕ) → ok_or (cond b (Some bytes) None) (BadParameter Query) ≡ Ok said → (b ≡ true) × (said ≡ bytes)
word true bytes said e = (refl, cc e)
word false bytes said e = cc e

no_word : (b : Bool) (bytes : List ℕ) (cause : Cause) → ok_or (cond b (Some bytes) None) (BadParameter Query) ≡ Err cause → (b ≡ false) × (cause ≡ BadParameter Query)
no_word true bytes cause e = cc e
no_word false bytes cause e = (refl, cc e)

append_one : (query left : List Parameter) (p : Parameter) → query ++ p ∷ left ≡ (query ++ p ∷ []) ++ left
append_one [] left p = refl
append_one (q ∷ query) left p = ap (λ (r : List Parameter). q ∷ r) (append_one query left p)

pub went : (text : List ℕ) (query left rest after : List Parameter) (n v name value : List ℕ) → IsRead text query left → left ≡ (n, v) ∷ rest → word_of n ≡ Ok name → word_of v ≡ Ok value → after ≡ query ++ (name, value) ∷ [] → IsRead text after rest
went text query left rest after n v name value read is a b grown =
    let x = word (is_utf8 (decode n)) (decode n) name a in
    let y = word (is_utf8 (decode v)) (decode v) value b in
    record {
      all = rw (grown, list_all-append, read.all, x.1, y.1, x.0, y.0) refl;
      whole = rw (grown, x.1, y.1, read.whole, is) (append_one query (map decoded rest) (decoded (n, v)));
    }

not_all : (text : List ℕ) (query left rest : List Parameter) (p : Parameter) → IsRead text query left → left ≡ p ∷ rest → is_text (decoded p) ≡ false → parameters_of text ≡ Err (BadParameter Query)
not_all text query left rest p read is not =
    let bad : list_all is_text (parse text) ≡ false = rw (read.whole, is, list_all-append, read.all, not) refl in
    rw bad refl

first_fails : (a b : Bool) → a ≡ false → (a && b) ≡ false
first_fails a b e = rw e refl

second_fails : (a b : Bool) → b ≡ false → (a && b) ≡ false
second_fails true b e = e
second_fails false b e = refl

pub bad_name : (text : List ℕ) (query left rest : List Parameter) (n v : List ℕ) (cause : Cause) → IsRead text query left → left ≡ (n, v) ∷ rest → (cause ≡ NoMemory) ⊎ (word_of n ≡ Err cause) → (cause ≡ NoMemory) ⊎ (parameters_of text ≡ Err cause)
bad_name text query left rest n v cause read is (inl e) = inl e
bad_name text query left rest n v cause read is (inr e) =
    let x = no_word (is_utf8 (decode n)) (decode n) cause e in
    inr (rw x.1 (not_all text query left rest (n, v) read is (first_fails _ _ x.0)))

pub bad_value : (text : List ℕ) (query left rest : List Parameter) (n v : List ℕ) (cause : Cause) → IsRead text query left → left ≡ (n, v) ∷ rest → (cause ≡ NoMemory) ⊎ (word_of v ≡ Err cause) → (cause ≡ NoMemory) ⊎ (parameters_of text ≡ Err cause)
bad_value text query left rest n v cause read is (inl e) = inl e
bad_value text query left rest n v cause read is (inr e) =
    let y = no_word (is_utf8 (decode v)) (decode v) cause e in
    inr (rw y.1 (not_all text query left rest (n, v) read is (second_fails (is_utf8 (decode n)) _ y.0)))
