-- A consumer joins: with one end more, the first of the largest shares is halved.
use Rattle.std.proofs.Common.{◌≡◌, ℕ, ◌+◌, ◌-◌, ◌<◌, ◌≤◌, true, cond, eqb, List, [], ◌∷◌, Option, Some, None, inl, inr, refl, sym, ap, ◌∙◌, subst, arith}
use Rattle.std.specs.Prelude.{nat_le, ◌==◌}
use Rattle.std.specs.List.{find}
use Rattle.std.specs.Ordering.{nat_cmp, match_ordering}
use Rattle.std.specs.BTreeMap.{insert_entry}
use Rattle.std.specs.declared.cmp.Ordering.{Ordering}
use Rattle.std.specs.declared.cmp.Ordering.TheVariants.{Less, Equal, Greater}
use Rattle.std.proofs.lemmas.Bool.{cases_lt, lt-ltb, le-ltb, le-leb, lt-leb, ne_eqb, eq-eqb}
use Rattle.position_core.specs.declared.block.Block.{Block}
use Rattle.delivery_machine.specs.Shares.{half, lower_half, upper_half, halving, most_hashes}
use Rattle.hash_ranges.specs.Ends.{share_between, shares_from, shares_of, larger, largest_with, largest_of, Rise, SplitFrom, SplitAll, IsEndToJoin}
use Rattle.hash_ranges.proofs.Shares.{split_after, split_rise, ends_within, find_cases, nothing_found, found_within}

-- ---- the largest share is the first that has most hashes

abbrev first_of_size : ℕ → List Block → Option Block
first_of_size size bs = find (λ b. eqb b.size size) bs

first_or_later : (b : Block) (bs : List Block) → first_of_size (most_hashes (b ∷ bs)) (b ∷ bs) ≡ cond (nat_le (most_hashes bs) b.size) (Some b) (first_of_size (most_hashes bs) bs)
first_or_later b bs = elim (cases_lt b.size (most_hashes bs)) [
  | inl less ↦
      let same : most_hashes (b ∷ bs) ≡ most_hashes bs = omega arith in
      ap (λ t. cond t (Some b) (first_of_size (most_hashes (b ∷ bs)) bs)) (ne_eqb b.size (most_hashes (b ∷ bs)) (λ e. omega arith))
      ∙ ap (λ m. first_of_size m bs) same
      ∙ sym (ap (λ t. cond t (Some b) (first_of_size (most_hashes bs) bs)) (lt-leb (most_hashes bs) b.size less))
  | inr most ↦
      ap (λ t. cond t (Some b) (first_of_size (most_hashes (b ∷ bs)) bs)) (eq-eqb b.size (most_hashes (b ∷ bs)) (omega arith))
      ∙ sym (ap (λ t. cond t (Some b) (first_of_size (most_hashes bs) bs)) (le-leb (most_hashes bs) b.size most))
]

with_other : (a : Block) (bs : List Block) → largest_with (Some a) bs ≡ cond (nat_le (most_hashes bs) a.size) (Some a) (first_of_size (most_hashes bs) bs)
with_other a [] = sym (ap (λ t. cond t (Some a) None) (le-leb 0 a.size (omega arith)))
with_other a (b ∷ bs) = elim (cases_lt a.size b.size) [
  | inl less ↦
      ap (λ t. largest_with (Some (cond t a b)) bs) (lt-leb b.size a.size less)
      ∙ with_other b bs
      ∙ sym (ap (λ t. cond t (Some a) (first_of_size (most_hashes (b ∷ bs)) (b ∷ bs))) (lt-leb (most_hashes (b ∷ bs)) a.size (omega arith)) ∙ first_or_later b bs)
  | inr most ↦
      ap (λ t. largest_with (Some (cond t a b)) bs) (le-leb b.size a.size most)
      ∙ with_other a bs
      ∙ elim (cases_lt a.size (most_hashes bs)) [
        | inl less ↦
            let same : most_hashes (b ∷ bs) ≡ most_hashes bs = omega arith in
            ap (λ t. cond t (Some a) (first_of_size (most_hashes bs) bs)) (lt-leb (most_hashes bs) a.size less)
            ∙ sym (ap (λ t. cond t (Some a) (first_of_size (most_hashes (b ∷ bs)) (b ∷ bs))) (lt-leb (most_hashes (b ∷ bs)) a.size (omega arith))
            ∙ ap (λ t. cond t (Some b) (first_of_size (most_hashes (b ∷ bs)) bs)) (ne_eqb b.size (most_hashes (b ∷ bs)) (λ e. omega arith))
            ∙ ap (λ m. first_of_size m bs) same)
        | inr none ↦
            ap (λ t. cond t (Some a) (first_of_size (most_hashes bs) bs)) (le-leb (most_hashes bs) a.size none)
            ∙ sym (ap (λ t. cond t (Some a) (first_of_size (most_hashes (b ∷ bs)) (b ∷ bs))) (le-leb (most_hashes (b ∷ bs)) a.size (omega arith)))
      ]
]

largest_is_first : (b : Block) (bs : List Block) → first_of_size (most_hashes (b ∷ bs)) (b ∷ bs) ≡ largest_of (b ∷ bs)
largest_is_first b bs = first_or_later b bs ∙ sym (with_other b bs)

some_largest : (a : Block) (bs : List Block) → largest_with (Some a) bs ≡ None → ⊥
some_largest a [] e = cc
some_largest a (b ∷ bs) e = some_largest (larger (Some a) b) bs e

-- ---- one end more

cmp_less : (a b : ℕ) → a < b → nat_cmp a b ≡ Less
cmp_less a b h = ap (λ t. cond t Less (cond (a == b) Equal Greater)) (lt-ltb a b h)

cmp_equal : (a b : ℕ) → a ≡ b → nat_cmp a b ≡ Equal
cmp_equal a b h = ap (λ t. cond t Less (cond (a == b) Equal Greater)) (le-ltb a b (omega arith)) ∙ ap (λ t. cond t Equal Greater) (eq-eqb a b h)

cmp_greater : (a b : ℕ) → b < a → nat_cmp a b ≡ Greater
cmp_greater a b h = ap (λ t. cond t Less (cond (a == b) Equal Greater)) (le-ltb a b (omega arith)) ∙ ap (λ t. cond t Equal Greater) (ne_eqb a b (λ e. omega arith))

module _ (e : ℕ × ℕ) (es : List (ℕ × ℕ)) (end consumer : ℕ) where
  inserted : (o : Ordering) → nat_cmp end e.0 ≡ o → insert_entry nat_cmp (e ∷ es) end consumer ≡ match_ordering o ((end, consumer) ∷ e ∷ es) ((e.0, consumer) ∷ es) (e ∷ insert_entry nat_cmp es end consumer)
  inserted o is = ap (λ o. match_ordering o ((end, consumer) ∷ e ∷ es) ((e.0, consumer) ∷ es) (e ∷ insert_entry nat_cmp es end consumer)) is

rise_inserted : (from : ℕ) (es : List (ℕ × ℕ)) (end consumer : ℕ) → Rise from es → from < end → end < 65536 → Rise from (insert_entry nat_cmp es end consumer)
rise_inserted from [] end consumer rise low high = absurd (omega arith)
rise_inserted from (e ∷ es) end consumer rise low high = elim (cases_lt end e.0) [
  | inl before ↦ subst (Rise from) (sym (inserted e es end consumer Less (cmp_less end e.0 before))) (low, (before, rise.1))
  | inr after ↦ elim (cases_lt e.0 end) [
    | inl past ↦ subst (Rise from) (sym (inserted e es end consumer Greater (cmp_greater end e.0 past))) (rise.0, rise_inserted e.0 es end consumer rise.1 past high)
    | inr same ↦ subst (Rise from) (sym (inserted e es end consumer Equal (cmp_equal end e.0 (omega arith)))) (rise.0, rise.1)
  ]
]

halved_first : (size consumer from : ℕ) (e : ℕ × ℕ) (es : List (ℕ × ℕ)) → from < e.0 → 1 < e.0 - from → eqb (e.0 - from) size ≡ true → shares_from from (insert_entry nat_cmp (e ∷ es) (from + half (e.0 - from)) consumer) ≡ halving size consumer (shares_from from (e ∷ es))
halved_first size consumer from e es low two here =
    let end = from + half (e.0 - from) in
    let taken : end - from ≡ half (e.0 - from) = omega arith in
    let kept : e.0 - end ≡ (e.0 - from) - half (e.0 - from) = omega arith in
    ap (shares_from from) (inserted e es end consumer Less (cmp_less end e.0 (omega arith)))
    ∙ ap (λ n. share_with from n consumer ∷ share_between end e.0 e.1 ∷ shares_from e.0 es) taken
    ∙ ap (λ n. share_with from (half (e.0 - from)) consumer ∷ share_with end n e.1 ∷ shares_from e.0 es) kept
    ∙ sym (ap (λ t. cond t (lower_half consumer (share_between from e.0 e.1) ∷ upper_half (share_between from e.0 e.1) ∷ shares_from e.0 es) (share_between from e.0 e.1 ∷ halving size consumer (shares_from e.0 es))) here)
  where
    share_with : ℕ → ℕ → ℕ → Block
    share_with from size consumer = record { from = from; size = size; consumer = consumer }

halved : (size consumer from : ℕ) (es : List (ℕ × ℕ)) (share : Block) → SplitFrom from es → 1 < share.size → first_of_size size (shares_from from es) ≡ Some share → shares_from from (insert_entry nat_cmp es (share.from + half share.size) consumer) ≡ halving size consumer (shares_from from es)
halved size consumer from [] share split two is = absurd (nothing_found (λ b. eqb b.size size) share is)
halved size consumer from (e ∷ es) share split two is = elim (find_cases (λ b. eqb b.size size) (share_between from e.0 e.1) share (shares_from e.0 es) is) [
  | inl here ↦
      let P : Block → Type 0 = λ (s : Block). shares_from from (insert_entry nat_cmp (e ∷ es) (s.from + half s.size) consumer) ≡ halving size consumer (shares_from from (e ∷ es)) in
      let two_here : 1 < e.0 - from = subst (λ (s : Block). 1 < s.size) (sym here.1) two in
      subst P here.1 (halved_first size consumer from e es (ends_within from e es split).0 two_here here.0)
  | inr later ↦
      let within = found_within (λ b. eqb b.size size) e.0 es share (split_after from e es split) later.1 in
      let past : e.0 < share.from + half share.size = omega (arith, within.0) in
      ap (shares_from from) (inserted e es (share.from + half share.size) consumer Greater (cmp_greater (share.from + half share.size) e.0 past))
      ∙ ap (λ bs. share_between from e.0 e.1 ∷ bs) (halved size consumer e.0 es share (split_after from e es split) two later.1)
      ∙ sym (ap (λ t. cond t (lower_half consumer (share_between from e.0 e.1) ∷ upper_half (share_between from e.0 e.1) ∷ shares_from e.0 es) (share_between from e.0 e.1 ∷ halving size consumer (shares_from e.0 es))) later.0)
]

pub joins_half : (es : List (ℕ × ℕ)) (share : Block) → SplitAll es → Some share ≡ largest_of (shares_of es) → 2 ≤ share.size → IsEndToJoin es (share.from + half share.size)
joins_half [] share split is two = absurd (bad is)
  where
    bad : Some share ≡ None → ⊥
    bad e = cc
joins_half (e ∷ es) share split is two = record {
  joins = λ consumer. halved most consumer 0 (e ∷ es) share split (omega arith) first;
  splits = λ consumer. split_rise 0 _ (rise_inserted 0 (e ∷ es) (share.from + half share.size) consumer split (omega arith) (omega (arith, within.1)));
}
  where
    most : ℕ
    most = most_hashes (shares_of (e ∷ es))

    first : first_of_size most (shares_of (e ∷ es)) ≡ Some share
    first = largest_is_first (share_between 0 e.0 e.1) (shares_from e.0 es) ∙ sym is

    within : (0 ≤ share.from) × (share.from + share.size ≤ 65536)
    within = found_within (λ b. eqb b.size most) 0 (e ∷ es) share split first

pub joins_all : (es : List (ℕ × ℕ)) → None ≡ largest_of (shares_of es) → IsEndToJoin es 65536
joins_all [] is = record { joins = λ consumer. refl; splits = λ consumer. (omega arith, refl) }
joins_all (e ∷ es) is = absurd (some_largest (share_between 0 e.0 e.1) (shares_from e.0 es) (sym is))

-- the bounds of a sum
pub half_fits : (es : List (ℕ × ℕ)) (share : Block) → SplitAll es → Some share ≡ largest_of (shares_of es) → share.from + half share.size ≤ 65536
half_fits [] share split is = absurd (bad is)
  where
    bad : Some share ≡ None → ⊥
    bad e = cc
half_fits (e ∷ es) share split is =
    let first = largest_is_first (share_between 0 e.0 e.1) (shares_from e.0 es) ∙ sym is in
    let within = found_within (λ b. eqb b.size (most_hashes (shares_of (e ∷ es)))) 0 (e ∷ es) share split first in
    omega (arith, within.1)
