-- Split shares have all hashes, so that none is free.
use Rattle.std.proofs.Common.{◌≡◌, ◌≢◌, true≢false, ℕ, ◌+◌, ◌-◌, ◌≤◌, true, false, List, [], ◌∷◌, length, None, inl, inr, refl, sym, ap, ◌∙◌, subst, arith}
use Rattle.std.specs.Prelude.{◌||◌}
use Rattle.std.specs.List.{find, list_any}
use Rattle.std.proofs.lemmas.Bool.{cases_lt}
use Rattle.position_core.specs.declared.block.Block.{Block}
use Rattle.position_core.specs.declared.ranges.HashRange.{HashRange}
use Rattle.position_core.specs.Ranges.{AreRanges}
use Rattle.position_core.proofs.RangesInOrder.{rise_within as range_within}
use Rattle.delivery_machine.specs.Shares.{Shares, SplitAllHashes, has_hash, is_taken, meets, with_ranges, sticky_with}
use Rattle.delivery_machine.specs.ShareSets.{AreApart}
use Rattle.delivery_machine.proofs.Sticky.{row_taken}
use Rattle.hash_ranges.specs.Ends.{share_between, shares_from, shares_of, Rise, SplitFrom, SplitAll}
use Rattle.hash_ranges.specs.Tables.{table_of, IsOfOneMode}
use Rattle.hash_ranges.proofs.Shares.{rise_within, split_after, split_of}
use Rattle.hash_ranges.proofs.Placed.{ranges_some}
use Rattle.hash_ranges.proofs.Apart.{first_from, first_here, first_later, has_here, has_later}

pub all_taken : (e : ℕ × ℕ) (es : List (ℕ × ℕ)) (ranges : List HashRange) → SplitAll (e ∷ es) → AreRanges ranges → list_any (λ r. list_any (meets r) (shares_of (e ∷ es))) ranges ≡ true
all_taken e es [] split are = absurd (omega (arith, are.some))
all_taken e es (r ∷ rs) split are =
    ap (λ t. t || list_any (λ r. list_any (meets r) (shares_of (e ∷ es))) rs)
    (row_taken 0 r (shares_of (e ∷ es)) (split_of (e ∷ es) split) (omega arith) are.rise.1 (let within = range_within (r.last + 1) rs are.rise.2 in omega (arith, within)))

-- ---- split shares stand apart

apart_from : (from : ℕ) (es : List (ℕ × ℕ)) → Rise from es → AreApart from (shares_from from es)
apart_from from [] rise = omega (arith, rise)
apart_from from (e ∷ es) rise =
    let end : e.0 ≡ from + (e.0 - from) = omega (arith, rise.0) in
    (omega arith, omega (arith, rise.0), subst (λ n. AreApart n (shares_from e.0 es)) end (apart_from e.0 es rise.1))

pub split_apart : (es : List (ℕ × ℕ)) → SplitAll es → AreApart 0 (shares_of es)
split_apart [] split = omega arith
split_apart (e ∷ es) split = apart_from 0 (e ∷ es) split

-- a table's blocks stand apart
pub table_apart : (es : List (ℕ × ℕ)) (bs : List Block) → SplitAll es → AreApart 0 bs → AreApart 0 (table_of es bs).blocks
table_apart es [] split apart = split_apart es split
table_apart es (b ∷ bs) split apart = apart

-- where it is not sticky, they have all hashes
pub table_split : (es : List (ℕ × ℕ)) (bs : List Block) → SplitAll es → (table_of es bs).sticky ≡ false → SplitAllHashes (table_of es bs).blocks
table_split es [] split not_sticky = split_of es split
table_split es (b ∷ bs) split not_sticky = absurd (true≢false not_sticky)

-- all ranges are taken in a table of split shares
pub taken_of : (e : ℕ × ℕ) (es : List (ℕ × ℕ)) (bs : List Block) (ranges : List HashRange) → SplitAll (e ∷ es) → IsOfOneMode (e ∷ es) bs → AreRanges ranges → is_taken ranges (table_of (e ∷ es) bs) ≡ true
taken_of e es [] ranges split mode are = all_taken e es ranges split are
taken_of e es (b ∷ bs) ranges split mode are = absurd (some mode)
  where
    some : ◌≡◌ {A = List (ℕ × ℕ)} (e ∷ es) [] → ⊥
    some is = cc

-- a table of which a range is free is of the other mode, or empty
pub free_ends : (es : List (ℕ × ℕ)) (bs : List Block) (ranges : List HashRange) → SplitAll es → IsOfOneMode es bs → AreRanges ranges → is_taken ranges (table_of es bs) ≡ false → es ≡ []
free_ends [] bs ranges split mode are free = refl
free_ends (e ∷ es) bs ranges split mode are free = absurd (true≢false (sym (taken_of e es bs ranges split mode are) ∙ free))

blocks_alone : (es : List (ℕ × ℕ)) (bs : List Block) → es ≡ [] → (table_of es bs).blocks ≡ bs
blocks_alone es [] none = ap shares_of none
blocks_alone es (b ∷ bs) none = refl

-- so that of its sticky blocks none meets the ranges
pub free_blocks : (es : List (ℕ × ℕ)) (bs : List Block) (ranges : List HashRange) → es ≡ [] → is_taken ranges (table_of es bs) ≡ false → list_any (λ r. list_any (meets r) bs) ranges ≡ false
free_blocks es bs ranges none free = subst (λ (bs : List Block). list_any (λ r. list_any (meets r) bs) ranges ≡ false) (blocks_alone es bs none) free

pub of_one_mode : (es : List (ℕ × ℕ)) (bs : List Block) → es ≡ [] → IsOfOneMode es bs
of_one_mode es [] none = tt
of_one_mode es (b ∷ bs) none = none

table_sticky : (es : List (ℕ × ℕ)) (bs : List Block) → bs ≢ [] → table_of es bs ≡ record { blocks = bs; sticky = true }
table_sticky es [] some = absurd (some refl)
table_sticky es (b ∷ bs) some = refl

-- with the ranges the table is sticky
pub table_joined : (consumer : ℕ) (ranges : List HashRange) (es : List (ℕ × ℕ)) (bs new : List Block) → es ≡ [] → AreRanges ranges → new ≡ with_ranges consumer ranges bs → table_of es new ≡ sticky_with consumer ranges (table_of es bs)
table_joined consumer ranges es bs new none are is =
    table_sticky es new (λ empty. ranges_some consumer ranges bs are.some (sym is ∙ empty))
    ∙ ap (λ (bs : List Block). sticky_of bs) (is ∙ ap (with_ranges consumer ranges) (sym (blocks_alone es bs none)))
  where
    sticky_of : List Block → Shares
    sticky_of bs = record { blocks = bs; sticky = true }

-- where there are ends, all ranges are taken
pub some_ends : (es : List (ℕ × ℕ)) (bs : List Block) (ranges : List HashRange) → SplitAll es → IsOfOneMode es bs → AreRanges ranges → (length es ≡ 0 → false ≡ true) → is_taken ranges (table_of es bs) ≡ true
some_ends [] bs ranges split mode are some = absurd (true≢false (sym (some refl)))
some_ends (e ∷ es) bs ranges split mode are some = taken_of e es bs ranges split mode are

-- the one that a hash is in is the first that ends behind it
split_first : (hash from : ℕ) (es : List (ℕ × ℕ)) → SplitFrom from es → from ≤ hash → find (has_hash hash) (shares_from from es) ≡ first_from hash (shares_from from es)
split_first hash from [] split low = refl
split_first hash from (e ∷ es) split low = elim (cases_lt hash e.0) [
  | inl here ↦
      has_here hash (share_between from e.0 e.1) (shares_from e.0 es) low (omega (arith, here))
      ∙ sym (first_here hash (share_between from e.0 e.1) (shares_from e.0 es) (omega (arith, here)))
  | inr past ↦
      has_later hash (share_between from e.0 e.1) (shares_from e.0 es) (omega (arith, past, split.0))
      ∙ split_first hash e.0 es (split_after from e es split) past
      ∙ sym (first_later hash (share_between from e.0 e.1) (shares_from e.0 es) (omega (arith, past, split.0)))
]

pub found_first : (hash : ℕ) (es : List (ℕ × ℕ)) → SplitAll es → find (has_hash hash) (shares_of es) ≡ first_from hash (shares_of es)
found_first hash es split = split_first hash 0 es split (omega arith)

none_past : (hash from : ℕ) (es : List (ℕ × ℕ)) → SplitFrom from es → 65536 ≤ hash → None ≡ first_from hash (shares_from from es)
none_past hash from [] split high = refl
none_past hash from (e ∷ es) split high =
    none_past hash e.0 es (split_after from e es split) high
    ∙ sym (first_later hash (share_between from e.0 e.1) (shares_from e.0 es) (omega (arith, high, split.0, rise_within e.0 es split.1)))

pub nothing_past : (hash : ℕ) (es : List (ℕ × ℕ)) → SplitAll es → 65536 ≤ hash → None ≡ first_from hash (shares_of es)
nothing_past hash es split high = none_past hash 0 es split high
