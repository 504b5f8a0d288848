-- What the queries of a piece of a topic's messages show, and how pieces join.
use Rattle.std.proofs.Common.{◌≡◌, Some, ℕ, ◌<◌, ◌≤◌, codes, ◌+◌, List, [], ◌∷◌, ◌++◌, map, filter, take, length, get_or, pos, Bool, true, false, not, inl, inr, Ordering, Less, Equal, Greater, refl, sym, ap, ap₂, subst, ◌∙◌, arith}
use Rattle.std.specs.Prelude.{◌&&◌, ◌||◌, ◌==◌}
use Rattle.std.specs.List.{list_any}
use Rattle.std.specs.List.{All}
use Rattle.std.specs.List.Sorted.{IsPermutation, IsSorted}
use Rattle.std.specs.Cmp.{IsTotalOrder}
use Rattle.std.specs.Ordering.{is_lt, is_ge, int_cmp}
use native.Mathlib.Numerals.{unary_clauses}
use Rattle.std.proofs.lemmas.Bool.{cases_Bool, cases_lt}
use Rattle.std.proofs.lemmas.Bool.Decides.{nat_tests}
use Rattle.std.proofs.lemmas.List.Elements.{All-map}
use Rattle.std.proofs.lemmas.List.Sorted.{All-permutation, IsPermutation-sym, IsPermutation-filter_both, list_any-IsPermutation}
use Rattle.sqlite.specs.declared.types.Value.{Value}
use Rattle.sqlite.specs.declared.types.Value.TheVariants.{Null, Int, Real, Text, Blob}
use Rattle.sqlite.specs.Collation.TheVariants.{Binary}
use Rattle.sqlite.specs.Order.{Row, column, value_cmp}
use Rattle.sqlite.specs.Tree.{Trees}
use Rattle.sqlite.specs.Term.{lit, col}
use Rattle.sqlite.specs.Ops.{binary, is_true, from_truth}
use Rattle.sqlite_sql.specs.declared.ops.BinaryOp.TheVariants.{Compare}
use Rattle.sqlite_sql.specs.declared.ops.CompareOp.TheVariants.{Lt, Ge}
use Rattle.sqlite_value.specs.Keys.{ascending}
use Rattle.sqlite_value.proofs.OrderLemmas.{value_cmp_total, value_cmp-Int, value_cmp-Null, then-Equal}
use Rattle.sqlite_trees.proofs.ListLemmas.{filter-map, filter_same, all_of}
use Rattle.sqlite.specs.State.{State, Shown}
use Rattle.row_forms.specs.Cells.{ENTRY, width, cells, bodies, is_below, is_of}
use Rattle.row_tables.specs.Ready.{IsReady}
use Rattle.row_tables.specs.Ordered.{AreSortedBy}
use Rattle.row_tables.specs.Pieces.{is_within, messages_of, ShowsWithin, first_is_below, has_below, has_from, has_others}
use Rattle.row_tables.proofs.Texts.{alone, matching_most, equals, place_from, place_below, select_piece, select_piece_is, select_first, select_first_is, select_from, select_from_is}
use Rattle.row_tables.proofs.TableLemmas.{text_is, text_test, filter_twice}
use Rattle.row_tables.proofs.StatementLemmas.{IsTestBy, finds_most, shows}
use Rattle.row_tables.proofs.ReadLemmas.{reads_those, sorted_shown}
use Rattle.row_forms.specs.Schema.{schema_9}
use Rattle.sqlite.specs.Program.{overlay}
use Rattle.sqlite.specs.Command.TheVariants.{Select}
use Rattle.sqlite.specs.Query.{Query, Output, output_cmp}
use Rattle.sqlite.proofs.Callers.{reads_as}

-- ---- the tests of a place

truth_is : (b : Bool) → is_true (from_truth (Some b)) ≡ b
truth_is true = refl
truth_is false = refl

from_is : (o : Ordering) → is_ge o ≡ not (is_lt o)
from_is Less = refl
from_is Equal = refl
from_is Greater = refl

from_below : (v : Value) (n m : ℕ) → (is_true (binary (Compare Ge Binary) v (Int (pos n))) && is_true (binary (Compare Lt Binary) v (Int (pos m)))) ≡ (not (is_lt (value_cmp v (Int (pos n)))) && is_lt (value_cmp v (Int (pos m))))
unfolding binary
from_below Null n m = rw (value_cmp-Null (Int (pos n))) refl
from_below (Int k) n m = rw (truth_is (is_ge (value_cmp (Int k) (Int (pos n)))), truth_is (is_lt (value_cmp (Int k) (Int (pos m)))), from_is (value_cmp (Int k) (Int (pos n)))) refl
from_below (Real x) n m = rw (truth_is (is_ge (value_cmp (Real x) (Int (pos n)))), truth_is (is_lt (value_cmp (Real x) (Int (pos m)))), from_is (value_cmp (Real x) (Int (pos n)))) refl
from_below (Text t) n m = rw (truth_is (is_ge (value_cmp (Text t) (Int (pos n)))), truth_is (is_lt (value_cmp (Text t) (Int (pos m)))), from_is (value_cmp (Text t) (Int (pos n)))) refl
from_below (Blob b) n m = rw (truth_is (is_ge (value_cmp (Blob b) (Int (pos n)))), truth_is (is_lt (value_cmp (Blob b) (Int (pos m)))), from_is (value_cmp (Blob b) (Int (pos n)))) refl

-- the message is the topic's, and its place is in the range
abbrev of_piece : List ℕ → ℕ → ℕ → Row → Bool
of_piece topic from end body = is_of topic body && is_within from end body

piece_test : (topic : List ℕ) (from end : ℕ) → IsTestBy ENTRY (equals 0 ∷ place_from ∷ place_below ∷ []) (Text topic ∷ Int (pos from) ∷ Int (pos end) ∷ []) (of_piece topic from end)
piece_test topic from end r = both _ _ _ _ _ (text_test (column r 1) topic) (from_below (column r 2) from end)
  where
    both : (a b c d e : Bool) → a ≡ d → (b && c) ≡ e → (a && (b && (c && true))) ≡ (d && e)
    both a b true d e is too = rw is (ap (λ x. d && x) too)
    both a b false d e is too = rw is (ap (λ x. d && x) too)

first_of : (a b : Bool) → (a && b) ≡ true → a ≡ true
first_of true b h = refl
first_of false b h = h

piece_first : (topic : List ℕ) (from end : ℕ) (r : Row) → of_piece topic from end (cells (width ENTRY) r) ≡ true → column r 1 ≡ Text topic
piece_first topic from end r h = text_is (column r 1) topic (first_of (is_of topic (cells (width ENTRY) r)) (is_within from end (cells (width ENTRY) r)) h)

pub reads_piece : (topic : List ℕ) (from end : ℕ) (old new : State) (rows : List Row) → Shown select_piece (Text topic ∷ Int (pos from) ∷ Int (pos end) ∷ []) old new rows → IsReady old.now → ShowsWithin topic from end rows old.now.trees × AreSortedBy 1 rows
reads_piece topic from end old new rows h ready =
    let read = reads_those ENTRY (equals 0 ∷ place_from ∷ place_below ∷ []) (col 1 2 ∷ col 1 3 ∷ col 1 4 ∷ col 1 5 ∷ col 1 6 ∷ col 1 7 ∷ col 1 8 ∷ col 1 9 ∷ col 1 10 ∷ col 1 11 ∷ []) ((col 1 2, ascending Binary) ∷ []) 1 (Text topic ∷ Int (pos from) ∷ Int (pos end) ∷ [])
    (of_piece topic from end) topic (piece_test topic from end) (piece_first topic from end) (λ r e. rw e refl) (λ _. refl) (λ _ _. refl) select_piece
    (codes "idx" ∷ codes "ledger" ∷ codes "entry" ∷ codes "producer" ∷ codes "sequence" ∷ codes "time" ∷ codes "has_key" ∷ codes "key" ∷ codes "properties" ∷ codes "payload" ∷ []) select_piece_is.0 select_piece_is.2 select_piece_is.1 old new rows h ready in
    (subst (IsPermutation (map (λ (r : Row). Text topic ∷ r) rows)) (sym (filter_twice (is_within from end) (is_of topic) (bodies ENTRY (old.now.trees ENTRY)))) read.0, read.1)

-- ---- messages elsewhere

from_here : (v : Value) (n : ℕ) → is_true (binary (Compare Ge Binary) v (Int (pos n))) ≡ not (is_lt (value_cmp v (Int (pos n))))
unfolding binary
from_here Null n = rw (value_cmp-Null (Int (pos n))) refl
from_here (Int k) n = truth_is (is_ge (value_cmp (Int k) (Int (pos n)))) ∙ from_is (value_cmp (Int k) (Int (pos n)))
from_here (Real x) n = truth_is (is_ge (value_cmp (Real x) (Int (pos n)))) ∙ from_is (value_cmp (Real x) (Int (pos n)))
from_here (Text t) n = truth_is (is_ge (value_cmp (Text t) (Int (pos n)))) ∙ from_is (value_cmp (Text t) (Int (pos n)))
from_here (Blob b) n = truth_is (is_ge (value_cmp (Blob b) (Int (pos n)))) ∙ from_is (value_cmp (Blob b) (Int (pos n)))

-- the message is the topic's, and it has this place, or one after it
abbrev of_from : List ℕ → ℕ → Row → Bool
of_from topic end body = is_of topic body && not (is_below end body)

from_test : (topic : List ℕ) (end : ℕ) → IsTestBy ENTRY (equals 0 ∷ place_from ∷ []) (Text topic ∷ Int (pos end) ∷ []) (of_from topic end)
from_test topic end r = both _ _ _ _ (text_test (column r 1) topic) (from_here (column r 2) end)
  where
    both : (a b d e : Bool) → a ≡ d → b ≡ e → (a && (b && true)) ≡ (d && e)
    both a true d e is too = rw is (ap (λ x. d && x) too)
    both a false d e is too = rw is (ap (λ x. d && x) too)

topic_test : (topic : List ℕ) → IsTestBy ENTRY (equals 0 ∷ []) (Text topic ∷ []) (is_of topic)
topic_test topic r = alone_is _ ∙ text_test (column r 1) topic
  where
    alone_is : (b : Bool) → (b && true) ≡ b
    alone_is true = refl
    alone_is false = refl

module _ {A : Type 0} where
  abbrev is_some : List A → Bool
  is_some = list_any (λ _. true)

  counted : (xs : List A) (n : ℕ) → length xs ≡ n → not (n == 0) ≡ is_some xs
  counted [] n many = rw (← many) refl
  counted (x ∷ xs) n many = ap not none
    where
      none : (n == 0) ≡ false
      none = let more : 0 < n = omega (arith, many) in grind (arith, nat_tests)

  some_first : (xs : List A) → is_some (take 1 xs) ≡ is_some xs
  some_first [] = refl
  some_first (x ∷ xs) = refl

  some_passed : (p : A → Bool) (xs : List A) → is_some (filter p xs) ≡ list_any p xs
  some_passed p [] = refl
  some_passed p (x ∷ xs) = elim (cases_Bool (p x)) [
    | inl e ↦ rw e refl
    | inr e ↦ rw e (some_passed p xs)
  ]

  any_passed : (p q : A → Bool) (xs : List A) → list_any q (filter p xs) ≡ list_any (λ x. p x && q x) xs
  any_passed p q [] = refl
  any_passed p q (x ∷ xs) = elim (cases_Bool (p x)) [
    | inl e ↦ rw e (ap (λ b. q x || b) (any_passed p q xs))
    | inr e ↦ rw e (any_passed p q xs)
  ]

any_mapped : {A B : Type 0} (p : B → Bool) (f : A → B) (xs : List A) → list_any p (map f xs) ≡ list_any (λ x. p (f x)) xs
any_mapped p f [] = refl
any_mapped p f (x ∷ xs) = ap (λ b. p (f x) || b) (any_mapped p f xs)

pub reads_from : (topic : List ℕ) (end : ℕ) (old new : State) (rows : List Row) → Shown select_from (Text topic ∷ Int (pos end) ∷ []) old new rows → IsReady old.now → (count : ℕ) → length rows ≡ count → not (count == 0) ≡ has_from topic end old.now.trees
reads_from topic end old new rows h ready count many =
    let values : Row = Text topic ∷ Int (pos end) ∷ [] in
    let q = matching_most ENTRY (equals 0 ∷ place_from ∷ []) (col 1 2 ∷ []) [] (lit (Int (pos 1))) in
    let read = reads_as select_from values old new schema_9 ready.schema_is (Select (alone q) (codes "idx" ∷ [])) select_from_is.0 select_from_is.2 select_from_is.1 rows h in
    let found = finds_most ENTRY (equals 0 ∷ place_from ∷ []) (col 1 2 ∷ []) [] values (of_from topic end) (overlay old.now.trees []) rows (from_test topic end) (lit (Int (pos 1))) (read.answer Null) in
    let stored = old.now.trees ENTRY in
    let outs : List Output = found.0 in
    counted rows count many ∙ ap is_some found.2 ∙ some_first (map (λ (o : Output). o.1) outs) ∙ any_mapped (λ _. true) (λ (o : Output). o.1) outs
    ∙ sym (list_any-IsPermutation (λ _. true) _ outs found.1)
    ∙ any_mapped (λ _. true) _ _
    ∙ some_passed (λ r. of_from topic end (cells (width ENTRY) r)) stored
    ∙ sym (any_mapped (of_from topic end) (cells (width ENTRY)) stored)
    ∙ sym (any_passed (is_of topic) (λ body. not (is_below end body)) (bodies ENTRY stored))

-- ---- the first message

-- the first of what is sorted comes before a bound where any does
module _ {A : Type 0} {cmp : A → A → Ordering} (order : IsTotalOrder cmp) (bound : A) where
  abbrev comes_before : A → Bool
  comes_before x = is_lt (cmp x bound)

  neither : (x y : A) → is_lt (cmp y x) ≡ false → comes_before x ≡ false → comes_before y ≡ false
  neither x y later after = by (cmp y x) (cmp y bound) refl refl
    where
      by : (b c : Ordering) → cmp y x ≡ b → cmp y bound ≡ c → comes_before y ≡ false
      by b Equal q r = rw r refl
      by b Greater q r = rw r refl
      by Less Less q r = absurd (let yes = rw q at later in cc)
      by Equal Less q r = absurd (let yes : comes_before x ≡ true = ap is_lt (sym (order.congr y x bound q) ∙ r) in let both = sym yes ∙ after in cc)
      by Greater Less q r =
          let back : cmp x y ≡ Less = order.antisymm x y ∙ rw q refl in
          absurd (let yes : comes_before x ≡ true = ap is_lt (order.trans x y bound back r) in let both = sym yes ∙ after in cc)

  later : (x : A) (xs : List A) (k : ℕ) (d : A) → get_or (x ∷ xs) (k + 1) d ≡ get_or xs k d
  later x xs k d = simp unary_clauses refl

  others_sorted : (x : A) (xs : List A) → IsSorted cmp (x ∷ xs) → IsSorted cmp xs
  others_sorted x xs sorted k d low below =
      ap₂ (λ a b. is_lt (cmp a b)) (sym (later x xs (k + 1) d)) (sym (later x xs k d)) ∙ sorted (k + 1) d (omega arith) (omega (arith, below))

  first_is_least : (x : A) (xs : List A) → IsSorted cmp (x ∷ xs) → list_any comes_before (x ∷ xs) ≡ comes_before x
  first_is_least x [] sorted = or_false (comes_before x)
    where
      or_false : (b : Bool) → (b || false) ≡ b
      or_false true = refl
      or_false false = refl
  first_is_least x (y ∷ ys) sorted = elim (cases_Bool (comes_before x)) [
    | inl e ↦ rw e refl
    | inr e ↦
        let second : is_lt (cmp y x) ≡ false = sorted 0 x (omega arith) (omega arith) in
        let rest : list_any comes_before (y ∷ ys) ≡ comes_before y = first_is_least y ys (others_sorted x (y ∷ ys) sorted) in
        rw (e, rest) (neither x y second e)
  ]

module _ (topic : List ℕ) (end : ℕ) where
  abbrev is_early : Row → Bool
  is_early row = is_lt (value_cmp (column row 0) (Int (pos end)))

  abbrev firsts : Query
  firsts = matching_most ENTRY (equals 0 ∷ []) (col 1 2 ∷ []) ((col 1 2, ascending Binary) ∷ []) (lit (Int (pos 1)))

  abbrev show : Row → Output
  show = shows (col 1 2 ∷ []) ((col 1 2, ascending Binary) ∷ []) (Text topic ∷ [])

  abbrev place : Output → Value
  place o = column o.1 0

  abbrev IsShown : Output → Type 0
  IsShown o = (r : Row) × (o ≡ show r)

  by_place : (r s : Row) → value_cmp (place (show r)) (place (show s)) ≡ output_cmp firsts (show r) (show s)
  by_place r s = sym (then-Equal _)

  places_sorted : (outs : List Output) (those : List Row) → IsPermutation (map show those) outs → IsSorted (output_cmp firsts) outs → IsSorted value_cmp (map place outs)
  places_sorted outs those same sorted =
      let all : All IsShown outs = All-permutation IsShown _ outs same (All-map IsShown show those (λ k d low. (get_or those k d, refl))) in
      sorted_shown IsShown (output_cmp firsts) value_cmp place (λ x y (r, is) (s, too). rw (is, too) (by_place r s)) outs all sorted

  first_answers : (outs : List Output) → IsSorted value_cmp (map place outs) → first_is_below end (take 1 (map (λ (o : Output). o.1) outs)) ≡ list_any (λ o. is_early o.1) outs
  first_answers [] sorted = refl
  first_answers (o ∷ outs) sorted =
      sym (first_is_least value_cmp_total (Int (pos end)) (place o) (map place outs) sorted) ∙ any_mapped (λ v. is_lt (value_cmp v (Int (pos end)))) place (o ∷ outs)

  pub reads_first : (old new : State) (rows : List Row) → Shown select_first (Text topic ∷ []) old new rows → IsReady old.now → first_is_below end rows ≡ has_below topic end old.now.trees
  reads_first old new rows h ready =
      let values : Row = Text topic ∷ [] in
      let read = reads_as select_first values old new schema_9 ready.schema_is (Select (alone firsts) (codes "idx" ∷ [])) select_first_is.0 select_first_is.2 select_first_is.1 rows h in
      let found = finds_most ENTRY (equals 0 ∷ []) (col 1 2 ∷ []) ((col 1 2, ascending Binary) ∷ []) values (is_of topic) (overlay old.now.trees []) rows (topic_test topic) (lit (Int (pos 1))) (read.answer Null) in
      let stored = old.now.trees ENTRY in
      let those = filter (λ r. is_of topic (cells (width ENTRY) r)) stored in
      let outs : List Output = found.0 in
      ap (first_is_below end) found.2
      ∙ first_answers outs (places_sorted outs those found.1 found.3)
      ∙ sym (list_any-IsPermutation (λ (o : Output). is_early o.1) _ outs found.1)
      ∙ any_mapped (λ (o : Output). is_early o.1) show those
      ∙ sym (any_mapped (is_below end) (cells (width ENTRY)) those)
      ∙ ap (list_any (is_below end)) (sym (filter-map (is_of topic) (cells (width ENTRY)) stored))

-- a place that is none from the first on, or one from the end on, is elsewhere
module _ (topic : List ℕ) (from end : ℕ) (db : Trees) where
  others_are : has_others topic from end db ≡ (has_below topic from db || has_from topic end db)
  others_are = by (messages_of topic db)
    where
      one : (a b c d : Bool) → (not (not a && b) || (c || d)) ≡ ((a || c) || (not b || d))
      one true true c d = refl
      one true false c d = refl
      one false true true d = refl
      one false true false d = refl
      one false false true d = refl
      one false false false d = refl

      by : (rows : List Row) → list_any (λ row. not (is_within from end row)) rows ≡ (list_any (is_below from) rows || list_any (λ row. not (is_below end row)) rows)
      by [] = refl
      by (row ∷ rows) = ap (λ more. not (is_within from end row) || more) (by rows) ∙ one (is_below from row) (is_below end row) _ _

  pub below_others : has_below topic from db ≡ true → true ≡ has_others topic from end db
  below_others below = sym (others_are ∙ rw below refl)

  pub from_others : has_below topic from db ≡ false → has_from topic end db ≡ has_others topic from end db
  from_others none = sym (others_are ∙ rw none refl)

-- ---- pieces join

less_is : (o : Ordering) → is_lt o ≡ true → o ≡ Less
less_is Less h = refl
less_is Equal h = absurd cc
less_is Greater h = absurd cc

number_below : (n m : ℕ) → n < m → value_cmp (Int (pos n)) (Int (pos m)) ≡ Less
number_below n m below = value_cmp-Int (pos n) (pos m) ∙ ints
  where
    ints : int_cmp (pos n) (pos m) ≡ Less
    ints = grind (arith, nat_tests)

pub below_more : (from end : ℕ) → from ≤ end → (r : Row) → is_below from r ≡ true → is_below end r ≡ true
below_more from end within r h = elim (cases_lt from end) [
  | inl less ↦ ap is_lt (value_cmp_total.trans (column r 1) (Int (pos from)) (Int (pos end)) (less_is _ h) (number_below from end less))
  | inr more ↦ let same : from ≡ end = omega (arith, within, more) in subst (λ n. is_below n r ≡ true) same h
]

module _ (start from end : ℕ) (early : start ≤ from) (within : from ≤ end) where
  before : (r : Row) → (is_within start end r && is_below from r) ≡ is_within start from r
  before r = by (is_below start r) (is_below from r) (is_below end r) (below_more from end within r)
    where
      by : (a b c : Bool) → (b ≡ true → c ≡ true) → ((not a && c) && b) ≡ (not a && b)
      by true b c h = refl
      by false true c h = rw (h refl) refl
      by false false true h = refl
      by false false false h = refl

  after : (r : Row) → (is_within start end r && not (is_below from r)) ≡ is_within from end r
  after r = by (is_below start r) (is_below from r) (is_below end r) (below_more start from early r)
    where
      by : (a b c : Bool) → (a ≡ true → b ≡ true) → ((not a && c) && not b) ≡ (not b && c)
      by true b c h = rw (h refl) refl
      by false true true h = refl
      by false true false h = refl
      by false false true h = refl
      by false false false h = refl

  -- those before a place and those from it on are those before the later one
  pub pieces_join : (rows : List Row) → IsPermutation (filter (is_within start from) rows ++ filter (is_within from end) rows) (filter (is_within start end) rows)
  pieces_join rows =
      let those = filter (is_within start end) rows in
      let first : filter (is_below from) those ≡ filter (is_within start from) rows = filter_twice (is_below from) (is_within start end) rows ∙ filter_same _ (is_within start from) rows (all_of _ before rows) in
      let second : filter (λ r. not (is_below from r)) those ≡ filter (is_within from end) rows = filter_twice (λ r. not (is_below from r)) (is_within start end) rows ∙ filter_same _ (is_within from end) rows (all_of _ after rows) in
      IsPermutation-sym _ _ (subst (λ l. IsPermutation those (filter (is_within start from) rows ++ l)) second (subst (λ l. IsPermutation those (l ++ filter (λ r. not (is_below from r)) those)) first (IsPermutation-filter_both (is_below from) (λ r. not (is_below from r)) (λ _. refl) those)))

-- where no other is there, all are within
pub all_within : (from end : ℕ) (rows : List Row) → list_any (λ row. not (is_within from end row)) rows ≡ false → filter (is_within from end) rows ≡ rows
all_within from end [] none = refl
all_within from end (r ∷ rows) none = by (is_within from end r) refl none (all_within from end rows)
  where
    by : (b : Bool) → is_within from end r ≡ b → (not b || list_any (λ row. not (is_within from end row)) rows) ≡ false → (list_any (λ row. not (is_within from end row)) rows ≡ false → filter (is_within from end) rows ≡ rows) → filter (is_within from end) (r ∷ rows) ≡ r ∷ rows
    by true is none others = rw is (ap (λ l. r ∷ l) (others none))
    by false is none others = absurd cc
