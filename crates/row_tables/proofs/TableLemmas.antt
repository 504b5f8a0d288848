-- Inserts, deletes and scans of one table, over plain lists of rows.
use Rattle.std.proofs.Common.{◌≡◌, inl, inr, ℕ, ℤ, List, [], ◌∷◌, map, filter, flat_map, cond, Bool, true, false, not, Some, refl, sym, ap, ◌∙◌, Ordering, Less, Equal, Greater, arith}
use Rattle.std.specs.Ordering.{is_eq, match_ordering}
use Rattle.std.specs.Prelude.{◌&&◌, ◌||◌}
use Rattle.std.specs.List.{list_any}
use Rattle.std.specs.List.Sorted.{IsPermutation}
use Rattle.std.proofs.lemmas.Bool.{cases_Bool}
use Rattle.std.proofs.lemmas.List.Sorted.{IsPermutation-refl, IsPermutation-trans, IsPermutation-cons, IsPermutation-middle, list_any-IsPermutation}
use Rattle.std.proofs.lemmas.Map.Lookups.{exact_bytes}
use Rattle.sqlite.specs.declared.types.Value.{Value}
use Rattle.sqlite.specs.declared.types.Value.TheVariants.{Null, Int, Real, Text, Blob}
use Rattle.sqlite.specs.Order.{Row, value_cmp}
use Rattle.sqlite.specs.Tree.{rowid, has_rowid, put_row, without_rowid}
use Rattle.sqlite_trees.specs.View.{IsShaped}
use Rattle.sqlite_trees.specs.declared.store.Shape.TheVariants.{Table}
use Rattle.sqlite.specs.Edit.{id_in, without_all, is_taken}
use Rattle.sqlite.specs.Ops.{binary, is_true, from_truth}
use Rattle.sqlite_sql.specs.declared.ops.BinaryOp.TheVariants.{Compare}
use Rattle.sqlite_sql.specs.declared.ops.CompareOp.TheVariants.{Eq}
use Rattle.sqlite.specs.Collation.TheVariants.{Binary}
use Rattle.sqlite_rules.specs.Lists.{Has}
use Rattle.sqlite_rules.proofs.ListLemmas.{all_has, all_from, some_has, some_from, has_filtered, has_kept}
use Rattle.sqlite_rules.proofs.PlaceLemmas.{tied_same}
use Rattle.sqlite_rules.proofs.TableLemmas.{int_is}
use Rattle.sqlite_value.proofs.OrderLemmas.{value_cmp_total, value_cmp-Text, value_cmp-Null}
use Rattle.sqlite_value.proofs.KeyLemmas.{class_tied}
use Rattle.sqlite_trees.proofs.ListLemmas.{filter_same, filter_all, all_of}
use Rattle.sqlite_rules.proofs.ProbeLemmas.{mapped_has}
use Rattle.std.specs.Cmp.{tied_itself, both_ways}

abbrev pub AreKeyed : List Row → Type 0
AreKeyed rows = IsShaped Table rows

equal_is : (o : Ordering) → is_eq o ≡ true → o ≡ Equal
equal_is Less h = absurd (cc)
equal_is Equal h = refl
equal_is Greater h = absurd (cc)

-- ---- a test of a column against a text

truth_is : (b : Bool) → is_true (from_truth (Some b)) ≡ b
truth_is true = refl
truth_is false = refl

pub text_test : (v : Value) (t : List ℕ) → is_true (binary (Compare Eq Binary) v (Text t)) ≡ is_eq (value_cmp v (Text t))
unfolding binary
text_test Null t = rw (value_cmp-Null (Text t)) refl
text_test (Int n) t = truth_is (is_eq (value_cmp (Int n) (Text t)))
text_test (Real x) t = truth_is (is_eq (value_cmp (Real x) (Text t)))
text_test (Text s) t = truth_is (is_eq (value_cmp (Text s) (Text t)))
text_test (Blob b) t = truth_is (is_eq (value_cmp (Blob b) (Text t)))

pub text_is : (v : Value) (t : List ℕ) → is_eq (value_cmp v (Text t)) ≡ true → v ≡ Text t
text_is Null t h = absurd (let e = class_tied Null (Text t) (equal_is _ h) in omega (arith, e))
text_is (Int n) t h = absurd (let e = class_tied (Int n) (Text t) (equal_is _ h) in omega (arith, e))
text_is (Real x) t h = absurd (let e = class_tied (Real x) (Text t) (equal_is _ h) in omega (arith, e))
text_is (Text s) t h = ap Text (exact_bytes s t (sym (value_cmp-Text s t) ∙ equal_is _ h))
text_is (Blob b) t h = absurd (let e = class_tied (Blob b) (Text t) (equal_is _ h) in omega (arith, e))

pub text_same : (t : List ℕ) → is_eq (value_cmp (Text t) (Text t)) ≡ true
text_same t = ap is_eq (tied_itself value_cmp_total (Text t))

pub same_text : (t : List ℕ) → is_true (binary (Compare Eq Binary) (Text t) (Text t)) ≡ true
same_text t = text_test (Text t) t ∙ text_same t

pub same_int : (n : ℤ) → is_true (binary (Compare Eq Binary) (Int n) (Int n)) ≡ true
unfolding binary
same_int n = truth_is (is_eq (value_cmp (Int n) (Int n))) ∙ ap is_eq (tied_itself value_cmp_total (Int n))

-- ---- lists

pub flat_pick : {A B : Type 0} (p : A → Bool) (f : A → B) (xs : List A) → flat_map (λ x. cond (p x && true) (f x ∷ []) []) xs ≡ map f (filter p xs)
flat_pick p f [] = refl
flat_pick p f (x ∷ xs) = elim (cases_Bool (p x)) [
  | inl e ↦ rw (e, flat_pick p f xs)
  | inr e ↦ rw (e, flat_pick p f xs)
]

pub filter_twice : {A : Type 0} (p q : A → Bool) (xs : List A) → filter p (filter q xs) ≡ filter (λ x. q x && p x) xs
filter_twice p q [] = refl
filter_twice p q (x ∷ xs) = elim (cases_Bool (q x)) [
  | inl e ↦ rw e (elim (cases_Bool (p x)) [ inl f ↦ rw (f, filter_twice p q xs) | inr f ↦ rw (f, filter_twice p q xs) ])
  | inr e ↦ rw (e, filter_twice p q xs)
]

pub swapped : {X : Type 0} (a b : X) (xs : List X) → IsPermutation (a ∷ b ∷ xs) (b ∷ a ∷ xs)
swapped a b xs = IsPermutation-middle (a ∷ []) b xs

mapped_from : {X Y : Type 0} (f : X → Y) (xs : List X) (y : Y) → Has (map f xs) y → (x : X) × Has xs x × (y ≡ f x)
mapped_from f [] y h = absurd h
mapped_from f (x ∷ xs) y (inl e) = (x, inl refl, e)
mapped_from f (x ∷ xs) y (inr h) = let more = mapped_from f xs y h in (more.0, inr more.1, more.2)

-- ---- a row is put

pub put_adds : (new : Row) (rows : List Row) → is_taken rows new ≡ false → IsPermutation (new ∷ rows) (put_row new rows)
put_adds new [] h = IsPermutation-refl (new ∷ [])
put_adds new (r ∷ rows) h = go (value_cmp (rowid r) (rowid new)) refl h (put_adds new rows)
  where
    go : (o : Ordering) → value_cmp (rowid r) (rowid new) ≡ o → (is_eq o || is_taken rows new) ≡ false → (is_taken rows new ≡ false → IsPermutation (new ∷ rows) (put_row new rows))
        → IsPermutation (new ∷ r ∷ rows) (match_ordering o (r ∷ put_row new rows) (new ∷ rows) (new ∷ r ∷ rows))
    go Less e free later = IsPermutation-trans _ _ _ (swapped new r rows) (IsPermutation-cons r _ _ (later free))
    go Equal e free later = absurd (cc)
    go Greater e free later = IsPermutation-refl _

-- ---- rows are taken out

not_either : (a b : Bool) → (not a && not b) ≡ not (a || b)
not_either true b = refl
not_either false b = refl

pub without_is : (ids : List ℤ) (rows : List Row) → without_all rows ids ≡ filter (λ r. not (list_any (λ id. has_rowid id r) ids)) rows
without_is [] rows = sym (filter_all (λ (r : Row). true) rows (all_of _ (λ r. refl) rows))
without_is (id ∷ ids) rows =
    without_is ids (without_rowid id rows) ∙ filter_twice _ _ rows ∙ filter_same _ (λ r. not (list_any (λ i. has_rowid i r) (id ∷ ids))) rows
    (all_of _ (λ r. not_either (has_rowid id r) (list_any (λ i. has_rowid i r) ids)) rows)

abbrev pub id_of : Row → ℤ
id_of r = id_in (rowid r)

module _ (p : Row → Bool) (rows : List Row) (keyed : AreKeyed rows) where
  id_is : (r : Row) → Has rows r → rowid r ≡ Int (id_of r)
  id_is r h = int_is (rowid r) (all_has _ rows r keyed.1 h)

  any_is : (r : Row) → Has rows r → list_any (λ id. has_rowid id r) (map id_of (filter p rows)) ≡ p r
  any_is r h = both_ways _ _
      (λ found.
      let some = some_has (λ id. has_rowid id r) (map id_of (filter p rows)) found in
      let from = mapped_from id_of (filter p rows) some.0 some.1 in
      let there = has_filtered p rows from.0 from.1 in
      let tie : value_cmp (rowid r) (rowid from.0) ≡ Equal = ap (value_cmp (rowid r)) (id_is from.0 there.0 ∙ ap Int (sym from.2)) ∙ equal_is _ some.2 in
      ap p (tied_same rows r from.0 keyed.0 h there.0 tie) ∙ there.1)
      (λ passes. some_from (λ id. has_rowid id r) (map id_of (filter p rows)) (id_of r) (mapped_has id_of (filter p rows) r (has_kept p rows r h passes))
      (ap (λ v. is_eq (value_cmp (rowid r) v)) (sym (id_is r h)) ∙ ap is_eq (tied_itself value_cmp_total (rowid r))))

  -- the rows that pass are taken out by their rowids
  pub removed : (ids : List ℤ) → IsPermutation (map id_of (filter p rows)) ids → without_all rows ids ≡ filter (λ r. not (p r)) rows
  removed ids same = without_is ids rows ∙ filter_same _ (λ r. not (p r)) rows
      (all_from _ rows (λ r h. ap not (sym (list_any-IsPermutation (λ id. has_rowid id r) _ ids same) ∙ any_is r h)))
