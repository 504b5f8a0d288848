-- Shares to which the definitions are held.
use Rattle.std.proofs.Common.{◌≡◌, ℕ, true, false, List, [], ◌∷◌, Some, refl}
use Rattle.position_core.specs.declared.block.Block.{Block}
use Rattle.position_core.specs.declared.ranges.HashRange.{HashRange}
use Rattle.delivery_machine.specs.Shares.{Shares, half, meets, no_shares, shared_out, shares_without}
use Rattle.hash_ranges.specs.Ends.{larger, share_between}
use Rattle.hash_ranges.specs.Tables.{table_of}

abbrev range : ℕ → ℕ → HashRange
range first last = record { first = first; last = last }

abbrev sticky : List Block → Shares
sticky blocks = record { blocks = blocks; sticky = true }

-- two hashes each
abbrev lower : Block
lower = share_between 0 2 1

abbrev upper : Block
upper = share_between 2 4 2

half_is_rounded_up : half 3 ≡ 2
half_is_rounded_up = refl

first_of_equal_ones_is_larger : larger (Some lower) upper ≡ lower
first_of_equal_ones_is_larger = refl

first_of_equal_ones_is_split : shared_out 3 (lower ∷ upper ∷ []) ≡ share_between 0 1 3 ∷ share_between 1 2 1 ∷ upper ∷ []
first_of_equal_ones_is_split = refl

meets_at_its_last_hash : meets (range 0 2) upper ≡ true
meets_at_its_last_hash = refl

meets_at_its_first_hash : meets (range 3 9) upper ≡ true
meets_at_its_first_hash = refl

ends_before_the_share : meets (range 0 1) upper ≡ false
ends_before_the_share = refl

begins_behind_the_share : meets (range 4 9) upper ≡ false
begins_behind_the_share = refl

nobody_is_not_sticky : table_of [] [] ≡ no_shares
nobody_is_not_sticky = refl

last_leaver_ends_sticky : shares_without 1 (sticky (lower ∷ [])) ≡ no_shares
last_leaver_ends_sticky = refl

range_of_a_leaver_is_free : shares_without 1 (sticky (lower ∷ upper ∷ [])) ≡ sticky (upper ∷ [])
range_of_a_leaver_is_free = refl
