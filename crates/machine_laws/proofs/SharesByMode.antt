-- Shares stay shares as consumers join and leave, split or sticky, and change hands by the rule.
use Rattle.std.proofs.Common.{◌≡◌, ℕ, ◌<◌, Bool, true, false, cond, List, [], ◌∷◌, length, ◌⊎◌, inl, inr, refl, sym, subst, ap, ◌∙◌, arith}
use Rattle.std.specs.Prelude.{◌+◌, ◌==◌, ◌||◌}
use Rattle.std.specs.List.{IsDistinct, list_any}
use Rattle.std.proofs.lemmas.Bool.Decides.{nat_tests}
use Rattle.position_core.specs.declared.block.Block.{Block}
use Rattle.position_core.specs.declared.ranges.HashRange.{HashRange}
use Rattle.position_core.specs.Ranges.{AreRanges, Rise}
use Rattle.position_core.proofs.RangesInOrder.{rise_within}
use Rattle.delivery_machine.specs.Shares.{Shares, no_shares, owner_among, owner_of, is_share_of, meets, is_taken, split_with, sticky_with, sticky_shares, shares_without, with_ranges, given_back, IsRow}
use Rattle.delivery_machine.specs.ShareSets.{AreSplit, AreApart, AreSticky, AreSharesIf, AreShares, GivesBack, Joins, Leaves, JoinsSticky, LeavesSticky, SharesAreSets}
use Rattle.machine_laws.proofs.ShareLaws.{all_to, split_joined, split_left, first_takes_all, others_take_half, gives_back}
use Rattle.delivery_machine.proofs.Sticky.{row_apart, ranges_apart, owner_taken, owner_stays, length_with_ranges, free_of, row_taken}
use Rattle.delivery_machine.proofs.StickyLeft.{others, others_apart, owner_gone, owner_left}

-- ---- what either mode has

-- nobody has a hash
pub none_split : AreSplit []
unfolding IsDistinct
none_split = record { split = tt; some = λ k d low. absurd (omega arith); distinct = tt }

pub split_apart : (bs : List Block) → AreSplit bs → AreApart 0 bs
split_apart [] are = omega arith
split_apart (b ∷ bs) are = row_apart 0 (b ∷ bs) are.split (all_to (λ (x : Block). 0 < x.size) (b ∷ bs) are.some)

pub shares_apart : (shares : Shares) → AreShares shares → AreApart 0 shares.blocks
shares_apart shares are = by shares.sticky shares.blocks are
  where
    by : (sticky : Bool) (bs : List Block) → AreSharesIf sticky bs → AreApart 0 bs
    by true bs are = are.apart
    by false bs are = split_apart bs are

-- where they are not sticky they split all hashes
pub split_unless_sticky : (shares : Shares) → shares.sticky ≡ false → AreShares shares → AreSplit shares.blocks
split_unless_sticky shares split are = subst (λ t. AreSharesIf t shares.blocks) split are

pub sticky_where_so : (shares : Shares) → shares.sticky ≡ true → AreShares shares → AreSticky shares.blocks
sticky_where_so shares sticky are = subst (λ t. AreSharesIf t shares.blocks) sticky are

-- where nobody has a share, there are none, and they are not sticky
pub nobody_shares : (shares : Shares) → AreShares shares → ((number : ℕ) → list_any (is_share_of number) shares.blocks ≡ false) → shares ≡ no_shares
nobody_shares shares are nobody = by shares.sticky shares.blocks are nobody
  where
    mine : (n : ℕ) (t : Bool) → (n == n || t) ≡ false → ⊥
    mine n t e = grind (arith, nat_tests)

    by : (sticky : Bool) (bs : List Block) → AreSharesIf sticky bs → ((number : ℕ) → list_any (is_share_of number) bs ≡ false) → ◌≡◌ {A = Shares} (record { blocks = bs; sticky = sticky }) no_shares
    by true [] are nobody = absurd (are.some refl)
    by false [] are nobody = refl
    by sticky (b ∷ bs) are nobody = absurd (mine b.consumer (list_any (is_share_of b.consumer) bs) (nobody b.consumer))

-- hashes that nobody has there are in sticky shares, or where there are no shares
pub sticky_where_free : (ranges : List HashRange) (shares : Shares) → AreRanges ranges → AreShares shares → is_taken ranges shares ≡ false → (shares.sticky ≡ true) ⊎ (shares.blocks ≡ [])
sticky_where_free ranges shares ranged are free = by shares.sticky shares.blocks are free
  where
    taken : (rs : List HashRange) (b : Block) (bs : List Block) → 0 < length rs → Rise 0 rs → IsRow 0 (b ∷ bs) → list_any (λ r. list_any (meets r) (b ∷ bs)) rs ≡ true
    taken [] b bs some rise row = absurd (omega arith)
    taken (r ∷ rs) b bs some rise row =
        ap (λ t. t || list_any (λ (x : HashRange). list_any (meets x) (b ∷ bs)) rs)
        (row_taken 0 r (b ∷ bs) row (omega arith) rise.1 (let within = rise_within (r.last + 1) rs rise.2 in omega (arith, within)))

    both : (t : Bool) → t ≡ true → t ≡ false → ⊥
    both t e f = cc

    by : (sticky : Bool) (bs : List Block) → AreSharesIf sticky bs → list_any (λ r. list_any (meets r) bs) ranges ≡ false → (sticky ≡ true) ⊎ (bs ≡ [])
    by true bs are free = inl refl
    by false [] are free = inr refl
    by false (b ∷ bs) are free = absurd (both (list_any (λ (r : HashRange). list_any (meets r) (b ∷ bs)) ranges) (taken ranges b bs ranged.some ranged.rise are.split) free)

-- ---- joining

pub shares_joined : (consumer : ℕ) (shares : Shares) → AreShares shares → shares.sticky ≡ false → list_any (is_share_of consumer) shares.blocks ≡ false → length shares.blocks < 64 → AreShares (split_with consumer shares)
shares_joined consumer shares are split away few =
    subst (λ t. AreSharesIf t (split_with consumer shares).blocks) (sym split) (split_joined consumer shares.blocks (split_unless_sticky shares split are) away few)

pub shares_joined_sticky : (consumer : ℕ) (ranges : List HashRange) (shares : Shares) → AreRanges ranges → AreShares shares → is_taken ranges shares ≡ false → AreShares (sticky_with consumer ranges shares)
shares_joined_sticky consumer ranges shares ranged are free = record {
  some = λ none.
      let many : length (with_ranges consumer ranges shares.blocks) ≡ length ranges + length shares.blocks = length_with_ranges consumer ranges shares.blocks in
      let empty : length (with_ranges consumer ranges shares.blocks) ≡ 0 = ap (λ (bs : List Block). length bs) none in
      let some = ranged.some in
      omega (arith, many, empty, some);
  apart = ranges_apart consumer 0 ranges shares.blocks ranged.rise (free_of consumer 0 ranges shares.blocks ranged.rise free) (shares_apart shares are);
}

joins : Joins
joins consumer shares are split away = (
  first_takes_all consumer shares.blocks,
  others_take_half consumer shares.blocks (split_unless_sticky shares split are),
  shares_joined consumer shares are split away,
)

joins_sticky : JoinsSticky
joins_sticky consumer ranges shares ranged are free =
    let untaken = free_of consumer 0 ranges shares.blocks ranged.rise free in (
      λ hash there. owner_taken consumer hash 0 ranges shares.blocks ranged.rise untaken there,
      λ hash past. owner_stays consumer hash 0 ranges shares.blocks ranged.rise untaken past,
      shares_joined_sticky consumer ranges shares ranged are free,
    )

-- ---- leaving

pub owner_of_sticky : (bs : List Block) (hash : ℕ) → owner_of (sticky_shares bs) hash ≡ owner_among bs hash
owner_of_sticky [] hash = refl
owner_of_sticky (b ∷ bs) hash = refl

pub sticky_are : (bs : List Block) → AreApart 0 bs → AreShares (sticky_shares bs)
sticky_are [] apart = none_split
sticky_are (b ∷ bs) apart = record { some = λ none. cc; apart = apart }

pub without_where_split : (consumer : ℕ) (shares : Shares) → shares.sticky ≡ false → shares_without consumer shares ≡ record shares { blocks = given_back consumer shares.blocks }
without_where_split consumer shares split = ap (λ t. cond t (sticky_shares (others consumer shares.blocks)) (record shares { blocks = given_back consumer shares.blocks })) split

pub without_where_sticky : (consumer : ℕ) (shares : Shares) → shares.sticky ≡ true → shares_without consumer shares ≡ sticky_shares (others consumer shares.blocks)
without_where_sticky consumer shares sticky = ap (λ t. cond t (sticky_shares (others consumer shares.blocks)) (record shares { blocks = given_back consumer shares.blocks })) sticky

pub shares_left : (consumer : ℕ) (shares : Shares) → AreShares shares → AreShares (shares_without consumer shares)
shares_left consumer shares are = by shares.sticky shares.blocks are
  where
    by : (sticky : Bool) (bs : List Block) → AreSharesIf sticky bs → AreShares (shares_without consumer (record { blocks = bs; sticky = sticky }))
    by true bs are = sticky_are (others consumer bs) (others_apart consumer 0 bs are.apart)
    by false bs are = split_left consumer bs are

leaves : Leaves
leaves consumer shares are split there = (
  subst (λ (new : Shares). GivesBack consumer shares.blocks new.blocks) (sym (without_where_split consumer shares split)) (gives_back consumer shares.blocks (split_unless_sticky shares split are) there),
  shares_left consumer shares are,
)

leaves_sticky : LeavesSticky
leaves_sticky consumer shares are sticky =
    let left = without_where_sticky consumer shares sticky in (
      λ hash mine.
          ap (λ (new : Shares). owner_of new hash) left ∙ owner_of_sticky (others consumer shares.blocks) hash
          ∙ owner_gone consumer hash 0 shares.blocks (shares_apart shares are) mine,
      λ hash other. ap (λ (new : Shares). owner_of new hash) left ∙ owner_of_sticky (others consumer shares.blocks) hash ∙ owner_left consumer hash shares.blocks other,
      shares_left consumer shares are,
    )

pub shares_are_sets : SharesAreSets
shares_are_sets = (joins, leaves, joins_sticky, leaves_sticky)
