-- Producers of messages that are gone, and the rule of what is kept: each is told by its row.
use Rattle.std.proofs.Common.{◌≡◌, ℕ, zero, suc, ◌<◌, ◌≤◌, Bool, true, false, Option, Some, None, List, [], ◌∷◌, map, length, ℤ, refl, ap, sym, ◌∙◌, arith}
use Rattle.std.specs.Prelude.{IsPermutation, ◌==◌, ◌&&◌, is_none, if◌then◌else◌}
use Rattle.std.specs.List.{AllByRecursion}
use Rattle.std.specs.List.Sorted.{IsStrictlySortedBy}
use Rattle.std.specs.Ordering.{nat_cmp}
use Rattle.std.specs.declared.cmp.Ordering.TheVariants.{Less}
use Rattle.std.specs.Cmp.{ranked}
use Rattle.std.proofs.lemmas.Bool.Decides.{nat_tests}
use Rattle.std.proofs.lemmas.List.{nil_from_length}
use Rattle.std.proofs.lemmas.List.Elements.{All-from_recursion, recursion_from_All}
use Rattle.std.proofs.lemmas.List.Sorted.{All-permutation, length_permutation}
use Rattle.std.proofs.lemmas.Map.Keys.{sorted_from_strictly_increasing}
use Rattle.sqlite.specs.Order.{Row, column}
use Rattle.delivery_machine.specs.State.{Author}
use Rattle.delivery_machine.specs.declared.retention.Retention.{Retention}
use Rattle.delivery_machine.specs.declared.retention.Retention.TheVariants.{All, Messages, Age}
use Rattle.delivery_machine.specs.WellFormed.{AreAuthors}
use Rattle.row_forms.specs.Forms.{author_row, author_rows, retention_row, retention_rows, rule_cells}
use Rattle.row_reading.specs.KeyOrder.{BelowByPlace, InOrder, whole_of}
use Rattle.row_reading.proofs.Orders.{same_in_order, same_mapped}
use Rattle.row_reading.proofs.RowOrders.{by_place_one_way}

-- ---- producers

author_is : (n n' : List ℕ) (s s' : ℤ) (i i' : ℕ) → n ≡ n' → s ≡ s' → i ≡ i' → (let a : Author = record { name = n; sequence = s; index = i } in let b : Author = record { name = n'; sequence = s'; index = i' } in a ≡ b)
author_is n n' s s' i i' a b c = rw (a, b, c) refl

pub one_author : (topic : List ℕ) (x y : Author) → author_row topic x ≡ author_row topic y → x ≡ y
one_author topic x y e =
    let name : x.name ≡ y.name = cc in
    let sequence : x.sequence ≡ y.sequence = cc in
    let index : x.index ≡ y.index = cc in
    author_is x.name y.name x.sequence y.sequence x.index y.index name sequence index

each_author : (xs : List Author) → AllByRecursion (λ (a : Author). Unit {0}) xs
each_author [] = tt
each_author (x ∷ xs) = (tt, each_author xs)

pub same_authors : (topic : List ℕ) (xs ys : List Author) → author_rows topic xs ≡ author_rows topic ys → xs ≡ ys
same_authors topic xs ys e = same_mapped (author_row topic) (λ (a : Author). Unit {0}) (λ x y _ _ is. one_author topic x y is) xs ys (each_author xs) (each_author ys) e

authors_after : (topic : List ℕ) (low : ℕ) (authors : List Author) → AllByRecursion (λ n. nat_cmp low n ≡ Less) (map (λ (a : Author). a.index) authors) → AllByRecursion (λ (r : Row). low < whole_of (column r 1)) (author_rows topic authors)
authors_after topic low [] all = tt
authors_after topic low (a ∷ authors) all = (ranked low a.index Less (sym all.0), authors_after topic low authors all.1)

rising_in_order : (topic : List ℕ) (authors : List Author) → IsStrictlySortedBy nat_cmp (map (λ (a : Author). a.index) authors) → InOrder BelowByPlace (author_rows topic authors)
unfolding IsStrictlySortedBy
rising_in_order topic [] rise = tt
rising_in_order topic (a ∷ authors) rise = (authors_after topic a.index authors rise.0, rising_in_order topic authors rise.1)

pub authors_in_order : (topic : List ℕ) (gone : ℕ) (authors : List Author) → AreAuthors gone authors → InOrder BelowByPlace (author_rows topic authors)
authors_in_order topic gone authors are = rising_in_order topic authors (sorted_from_strictly_increasing (map (λ (a : Author). a.index) authors) are.indexes.rising)

pub told_authors : (topic : List ℕ) (gone gone' : ℕ) (xs ys : List Author) → AreAuthors gone xs → AreAuthors gone' ys → IsPermutation (author_rows topic xs) (author_rows topic ys) → xs ≡ ys
told_authors topic gone gone' xs ys a b same =
    same_authors topic xs ys (same_in_order BelowByPlace by_place_one_way (author_rows topic xs) (author_rows topic ys) (authors_in_order topic gone xs a) (authors_in_order topic gone' ys b) same)

-- ---- lists of one row or none

pub only_one : (row : Row) (rows : List Row) → length rows ≡ 1 → AllByRecursion (λ (r : Row). r ≡ row) rows → rows ≡ row ∷ []
only_one row [] one all = absurd (omega (arith, one))
only_one row (r ∷ []) one all = ap (λ (x : Row). x ∷ []) all.0
only_one row (r ∷ s ∷ rows) one all = absurd (omega (arith, one))

pub few_same : (xs ys : List Row) → length xs ≤ 1 → IsPermutation xs ys → xs ≡ ys
few_same [] ys few same = sym (nil_from_length ys (length_permutation [] ys same))
few_same (x ∷ []) ys few same =
    sym (only_one x ys (length_permutation (x ∷ []) ys same)
    (recursion_from_All (λ (r : Row). r ≡ x) ys (All-permutation (λ (r : Row). r ≡ x) (x ∷ []) ys same (All-from_recursion (λ (r : Row). r ≡ x) (x ∷ []) (refl, tt)))))
few_same (x ∷ y ∷ xs) ys few same = absurd (omega (arith, few))

-- ---- what is gone, and the rule

rule_at : ℕ → ℕ → Option Retention
rule_at zero amount = None
rule_at (suc zero) amount = Some All
rule_at (suc (suc zero)) amount = Some (Messages amount)
rule_at (suc (suc (suc kind))) amount = Some (Age amount)

rule_back : (rule : Option Retention) → rule_at (whole_of (column (rule_cells rule) 0)) (whole_of (column (rule_cells rule) 1)) ≡ rule
unfolding rule_at
rule_back None = refl
rule_back (Some All) = refl
rule_back (Some (Messages count)) = refl
rule_back (Some (Age millis)) = refl

pub one_rule : (a b : Option Retention) → rule_cells a ≡ rule_cells b → a ≡ b
one_rule a b e = sym (rule_back a) ∙ ap (λ (cells : Row). rule_at (whole_of (column cells 0)) (whole_of (column cells 1))) e ∙ rule_back b

says_nothing : (gone : ℕ) (rule : Option Retention) → (gone == 0 && is_none rule) ≡ true → (gone ≡ 0) × (rule ≡ None)
says_nothing gone None e = let same : gone ≡ 0 = grind (arith, nat_tests) in (same, refl)
says_nothing gone (Some rule) e = absurd (never (gone == 0) e)
  where
    never : (b : Bool) → (b && false) ≡ true → ⊥
    never true e = cc
    never false e = cc

pub one_front : (topic : List ℕ) (gone gone' : ℕ) (rule rule' : Option Retention) → retention_rows topic gone rule ≡ retention_rows topic gone' rule' → (gone ≡ gone') × (rule ≡ rule')
one_front topic gone gone' rule rule' e = by (gone == 0 && is_none rule) (gone' == 0 && is_none rule') refl refl e
  where
    by : (b c : Bool) → (gone == 0 && is_none rule) ≡ b → (gone' == 0 && is_none rule') ≡ c
        → (if b then [] else retention_row topic gone rule ∷ []) ≡ (if c then [] else retention_row topic gone' rule' ∷ []) → (gone ≡ gone') × (rule ≡ rule')
    by true true first second e =
        let a = says_nothing gone rule first in
        let b = says_nothing gone' rule' second in
        (a.0 ∙ sym b.0, a.1 ∙ sym b.1)
    by true false first second e = absurd (cc)
    by false true first second e = absurd (cc)
    by false false first second e =
        let same : gone ≡ gone' = cc in
        let cells : rule_cells rule ≡ rule_cells rule' = cc in
        (same, one_rule rule rule' cells)

pub retentions_few : (topic : List ℕ) (gone : ℕ) (rule : Option Retention) → length (retention_rows topic gone rule) ≤ 1
retentions_few topic gone rule = by (gone == 0 && is_none rule)
  where
    by : (b : Bool) → length (if b then [] else retention_row topic gone rule ∷ []) ≤ 1
    by true = omega arith
    by false = omega arith
