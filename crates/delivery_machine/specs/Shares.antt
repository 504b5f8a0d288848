-- Shares: which consumer of a Key_Shared subscription has which hashes, of 0 to 65,535. Either all of them are split among
-- the consumers, or, in sticky shares, each consumer has those that it asked for.
use Rattle.std.specs.Prelude.{◌≡◌, ℕ, ◌+◌, ◌-◌, ◌/◌, ◌==◌, nat_le, nat_lt, max, Bool, true, false, not, ◌&&◌, List, [], ◌∷◌, length, Option, Some, None, is_some, if◌then◌else◌}
use Rattle.std.specs.List.{find, filter, list_any}
use Rattle.std.specs.Option.{option_map}
use Rattle.position_core.specs.declared.block.Block.{Block}
use Rattle.position_core.specs.declared.ranges.HashRange.{HashRange}
use Rattle.position_core.specs.declared.kind.Kind.{Kind}
use Rattle.position_core.specs.declared.kind.Kind.TheVariants.{Exclusive, Failover, Shared, KeyShared}
use Rattle.position_core.specs.Numbers.{ConsumerNumber}

abbrev pub has_hash : ℕ → Block → Bool
has_hash hash b = nat_le b.from hash && nat_lt hash (b.from + b.size)

-- blocks of hashes in their order, each with the consumer in whose share it is
pub record Shares : Type 0 where
  pub blocks : List Block
  pub sticky : Bool

abbrev pub no_shares : Shares
no_shares = record { blocks = []; sticky = false }

abbrev pub owner_among : List Block → ℕ → Option ConsumerNumber
owner_among bs hash = option_map (λ b. b.consumer) (find (has_hash hash) bs)

-- the consumer in whose share the hash is
abbrev pub owner_of : Shares → ℕ → Option ConsumerNumber
owner_of shares hash = owner_among shares.blocks hash

-- the first share begins at the hash, each other where the one before it ends, and the last ends at 65,536
abbrev pub IsRow : ℕ → List Block → Type 0
IsRow hash [] = hash ≡ 65536
IsRow hash (b ∷ bs) = (b.from ≡ hash) × IsRow (hash + b.size) bs

-- the hashes 0 to 65,535, as soon as there are shares
abbrev pub SplitAllHashes : List Block → Type 0
SplitAllHashes [] = Unit {0}
SplitAllHashes (b ∷ bs) = IsRow 0 (b ∷ bs)

-- ---- joining

abbrev pub all_hashes : ConsumerNumber → Block
all_hashes consumer = record { from = 0; size = 65536; consumer = consumer }

-- rounded up
abbrev pub half : ℕ → ℕ
half size = (size + 1) / 2

abbrev pub lower_half : ConsumerNumber → Block → Block
lower_half consumer b = record { from = b.from; size = half b.size; consumer = consumer }

-- what is left of it
abbrev pub upper_half : Block → Block
upper_half b = record { from = b.from + half b.size; size = b.size - half b.size; consumer = b.consumer }

abbrev pub most_hashes : List Block → ℕ
most_hashes [] = 0
most_hashes (b ∷ bs) = max b.size (most_hashes bs)

-- the consumer takes the lower half of the first share of the size
abbrev pub halving : ℕ → ConsumerNumber → List Block → List Block
halving size consumer [] = []
halving size consumer (b ∷ bs) = if b.size == size then lower_half consumer b ∷ upper_half b ∷ bs else b ∷ halving size consumer bs

-- the first consumer has all hashes; a further one takes half of the share with most, of equal ones that of the least hashes
abbrev pub shared_out : ConsumerNumber → List Block → List Block
shared_out consumer [] = all_hashes consumer ∷ []
shared_out consumer (b ∷ bs) = halving (most_hashes (b ∷ bs)) consumer (b ∷ bs)

-- the consumer joins among those that split all hashes
abbrev pub split_with : ConsumerNumber → Shares → Shares
split_with consumer shares = record shares { blocks = shared_out consumer shares.blocks }

-- ---- joining with ranges

abbrev pub block_of : ConsumerNumber → HashRange → Block
block_of consumer r = record { from = r.first; size = r.last + 1 - r.first; consumer = consumer }

-- the block goes before the first that begins behind it
abbrev pub with_block : Block → List Block → List Block
with_block b [] = b ∷ []
with_block b (c ∷ bs) = if nat_lt b.from c.from then b ∷ c ∷ bs else c ∷ with_block b bs

abbrev pub with_ranges : ConsumerNumber → List HashRange → List Block → List Block
with_ranges consumer [] bs = bs
with_ranges consumer (r ∷ rs) bs = with_ranges consumer rs (with_block (block_of consumer r) bs)

-- the consumer has the hashes that it asks for
abbrev pub sticky_with : ConsumerNumber → List HashRange → Shares → Shares
sticky_with consumer ranges shares = record { blocks = with_ranges consumer ranges shares.blocks; sticky = true }

-- the range and the block have a hash in common
abbrev pub meets : HashRange → Block → Bool
meets r b = nat_lt b.from (r.last + 1) && nat_lt r.first (b.from + b.size)

-- a hash of the ranges is in somebody's share
abbrev pub is_taken : List HashRange → Shares → Bool
is_taken ranges shares = list_any (λ r. list_any (meets r) shares.blocks) ranges

-- ---- joining, by the kind: there are shares in Key_Shared alone

-- the consumer would say which hashes it takes where the others did not, or the other way about
abbrev pub mixes : Kind → Option (List HashRange) → Shares → Bool
mixes KeyShared ranges shares = if shares.sticky then not (is_some ranges) else is_some ranges
mixes kind ranges shares = false

-- a hash that the consumer asks for is in another's share
abbrev pub asks_taken : Kind → Option (List HashRange) → Shares → Bool
asks_taken KeyShared (Some ranges) shares = is_taken ranges shares
asks_taken kind ranges shares = false

abbrev pub shares_with : Kind → Option (List HashRange) → ConsumerNumber → Shares → Shares
shares_with KeyShared None consumer shares = split_with consumer shares
shares_with KeyShared (Some ranges) consumer shares = sticky_with consumer ranges shares
shares_with Exclusive ranges consumer shares = shares
shares_with Failover ranges consumer shares = shares
shares_with Shared ranges consumer shares = shares

-- ---- leaving

abbrev pub is_share_of : ConsumerNumber → Block → Bool
is_share_of consumer b = b.consumer == consumer

-- a block with the hashes of the one that goes, which stands beside it
abbrev pub with_lower : Block → Block → Block
with_lower gone b = record b { from = gone.from; size = gone.size + b.size }

abbrev pub with_upper : Block → Block → Block
with_upper gone b = record b { size = b.size + gone.size }

-- the leaver's share joins the one of the next hashes, or, where it has the last hashes, the one before it
abbrev pub given_back : ConsumerNumber → List Block → List Block
given_back consumer [] = []
given_back consumer (a ∷ []) = if is_share_of consumer a then [] else a ∷ []
given_back consumer (a ∷ b ∷ rest) =
    if is_share_of consumer a then with_lower a b ∷ rest
    else if is_share_of consumer b && length rest == 0 then with_upper b a ∷ []
    else a ∷ given_back consumer (b ∷ rest)

-- sticky shares, as long as there are any
abbrev pub sticky_shares : List Block → Shares
sticky_shares [] = no_shares
sticky_shares (b ∷ bs) = record { blocks = b ∷ bs; sticky = true }

-- the leaver's hashes go to another, or, in sticky shares, to nobody
abbrev pub shares_without : ConsumerNumber → Shares → Shares
shares_without consumer shares =
    if shares.sticky
    then sticky_shares (filter (λ b. not (is_share_of consumer b)) shares.blocks)
    else record shares { blocks = given_back consumer shares.blocks }
