-- Who has which hash: the rule of joining and leaving in its own words, beside the walk over the shares.
use Rattle.std.specs.Prelude.{◌≡◌, ◌≢◌, ℕ, ◌+◌, ◌-◌, ◌<◌, ◌≤◌, ◌==◌, nat_eq, Bool, true, false, List, [], ◌∷◌, map, length, Option, Some, None, if◌then◌else◌}
use Rattle.std.specs.List.{All, Contains, list_any, IsDistinct}
use Rattle.position_core.specs.declared.block.Block.{Block}
use Rattle.position_core.specs.declared.ranges.HashRange.{HashRange}
use Rattle.position_core.specs.Ranges.{AreRanges, have_hash}
use Rattle.delivery_machine.specs.Shares.{Shares, has_hash, owner_among, owner_of, is_share_of, lower_half, SplitAllHashes, split_with, sticky_with, is_taken, shares_without}

-- shares that have all hashes, each of them once, and each at least one; no consumer has two
pub record AreSplit (bs : List Block) : Type 0 where
  pub split : SplitAllHashes bs
  pub some : All (λ b. 0 < b.size) bs
  pub distinct : IsDistinct nat_eq (map (λ b. b.consumer) bs)

-- each block begins at the hash or behind it, where the one before it ends or later, and has at least one hash
abbrev pub AreApart : ℕ → List Block → Type 0
AreApart hash [] = hash ≤ 65536
AreApart hash (b ∷ bs) = (hash ≤ b.from) × (0 < b.size) × AreApart (b.from + b.size) bs

-- shares that have some hashes, none of them twice
pub record AreSticky (bs : List Block) : Type 0 where
  pub some : bs ≢ []
  pub apart : AreApart 0 bs

abbrev pub AreSharesIf : Bool → List Block → Type 0
AreSharesIf true bs = AreSticky bs
AreSharesIf false bs = AreSplit bs

abbrev pub AreShares : Shares → Type 0
AreShares shares = AreSharesIf shares.sticky shares.blocks

-- none of the shares has more hashes, and of those with as many none begins before
pub record IsLargest (shares : List Block) (giver : Block) : Type 0 where
  pub there : Contains shares giver
  pub most : All (λ b. b.size ≤ giver.size) shares
  pub first : All (λ b. b.size ≡ giver.size → giver.from ≤ b.from) shares

-- the joiner has the lower half of the largest share, rounded up, and every other hash is whose it was
pub record TakesHalf (consumer : ℕ) (shares new : List Block) : Type 0 where
  pub giver : Block
  pub largest : IsLargest shares giver
  pub taken : (hash : ℕ) → has_hash hash (lower_half consumer giver) ≡ true → owner_among new hash ≡ Some consumer
  pub others : (hash : ℕ) → has_hash hash (lower_half consumer giver) ≡ false → owner_among new hash ≡ owner_among shares hash

-- who has the hash after the greatest of the share, or, where that is 65,535, the one before its least; nobody where it has all
abbrev pub heir : List Block → Block → Option ℕ
heir shares gone =
    if gone.from + gone.size == 65536
    then (if gone.from == 0 then None else owner_among shares (gone.from - 1))
    else owner_among shares (gone.from + gone.size)

-- the leaver's hashes are the heir's, and every other hash is whose it was
pub record GivesBack (consumer : ℕ) (shares new : List Block) : Type 0 where
  pub gone : Block
  pub there : Contains shares gone
  pub leaver : gone.consumer ≡ consumer
  pub given : (hash : ℕ) → has_hash hash gone ≡ true → owner_among new hash ≡ heir shares gone
  pub others : (hash : ℕ) → has_hash hash gone ≡ false → owner_among new hash ≡ owner_among shares hash

-- a consumer that is not there takes half, and the first one all
abbrev pub Joins : Type 0
Joins =
    (consumer : ℕ) (shares : Shares) → AreShares shares → shares.sticky ≡ false → list_any (is_share_of consumer) shares.blocks ≡ false
    → (shares.blocks ≡ [] → (hash : ℕ) → hash < 65536 → owner_of (split_with consumer shares) hash ≡ Some consumer)
    × (shares.blocks ≢ [] → TakesHalf consumer shares.blocks (split_with consumer shares).blocks)
    × (length shares.blocks < 64 → AreShares (split_with consumer shares))

-- a consumer that is there gives its hashes back
abbrev pub Leaves : Type 0
Leaves =
    (consumer : ℕ) (shares : Shares) → AreShares shares → shares.sticky ≡ false → list_any (is_share_of consumer) shares.blocks ≡ true
    → GivesBack consumer shares.blocks (shares_without consumer shares).blocks × AreShares (shares_without consumer shares)

-- a consumer has the hashes that it asked for, where nobody had them, and every other hash is whose it was
abbrev pub JoinsSticky : Type 0
JoinsSticky =
    (consumer : ℕ) (ranges : List HashRange) (shares : Shares) → AreRanges ranges → AreShares shares → is_taken ranges shares ≡ false
    → ((hash : ℕ) → have_hash ranges hash ≡ true → owner_of (sticky_with consumer ranges shares) hash ≡ Some consumer)
    × ((hash : ℕ) → have_hash ranges hash ≡ false → owner_of (sticky_with consumer ranges shares) hash ≡ owner_of shares hash)
    × AreShares (sticky_with consumer ranges shares)

-- its hashes are nobody's once it leaves, and every other hash is whose it was
abbrev pub LeavesSticky : Type 0
LeavesSticky =
    (consumer : ℕ) (shares : Shares) → AreShares shares → shares.sticky ≡ true
    → ((hash : ℕ) → owner_of shares hash ≡ Some consumer → owner_of (shares_without consumer shares) hash ≡ None)
    × ((hash : ℕ) → owner_of shares hash ≢ Some consumer → owner_of (shares_without consumer shares) hash ≡ owner_of shares hash)
    × AreShares (shares_without consumer shares)

abbrev pub SharesAreSets : Type 0
SharesAreSets = Joins × Leaves × JoinsSticky × LeavesSticky
