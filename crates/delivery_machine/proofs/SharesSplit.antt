-- That the shares split all hashes among them, as consumers join and leave.
use Rattle.std.proofs.Common.{◌≡◌, ℕ, ◌+◌, ◌-◌, ◌<◌, ◌≤◌, zero, suc, Bool, true, false, cond, eqb, List, [], ◌∷◌, length, get_or, refl, subst, arith, Contains}
use Rattle.std.specs.Prelude.{◌&&◌}
use Rattle.std.proofs.lemmas.Bool.Decides.{nat_tests}
use Rattle.position_core.specs.declared.block.Block.{Block}
use Rattle.delivery_machine.specs.Shares.{half, lower_half, upper_half, halving, most_hashes, shared_out, is_share_of, with_lower, with_upper, given_back, IsRow, SplitAllHashes}

pub row_of_split : (bs : List Block) (k : ℕ) → k < length bs → SplitAllHashes bs → IsRow 0 bs
row_of_split [] k within split = absurd (omega arith)
row_of_split (b ∷ bs) k within split = split

pub split_of_row : (bs : List Block) → IsRow 0 bs → SplitAllHashes bs
split_of_row [] row = tt
split_of_row (b ∷ bs) row = row

pub row_moved : (m n : ℕ) (bs : List Block) → m ≡ n → IsRow m bs → IsRow n bs
row_moved m n bs same row = subst (λ h. IsRow h bs) same row

pub begins_within : (h : ℕ) (bs : List Block) → IsRow h bs → h ≤ 65536
begins_within h [] row = omega arith
begins_within h (b ∷ bs) row = let rest = begins_within (h + b.size) bs row.1 in omega arith

pub row_ends : (h : ℕ) (bs : List Block) (k : ℕ) (d : Block) → k < length bs → IsRow h bs → (get_or bs k d).from + (get_or bs k d).size ≤ 65536
row_ends h [] k d within row = absurd (omega arith)
row_ends h (b ∷ bs) zero d within row = let rest = begins_within (h + b.size) bs row.1 in omega arith
row_ends h (b ∷ bs) (suc k) d within row = row_ends (h + b.size) bs k d (omega arith) row.1

-- a share of the row ends within the hashes
pub ends_within : (h : ℕ) (bs : List Block) (b : Block) → IsRow h bs → Contains bs b → b.from + b.size ≤ 65536
ends_within h bs b row at = subst (λ (x : Block). x.from + x.size ≤ 65536) at.2 (row_ends h bs at.0 b at.1 row)

-- ---- joining

pub row_halving : (h size consumer : ℕ) (bs : List Block) → IsRow h bs → IsRow h (halving size consumer bs)
row_halving h size consumer [] row = row
row_halving h size consumer (b ∷ bs) row = by_test (eqb b.size size) (row_halving (h + b.size) size consumer bs row.1)
  where
    by_test : (t : Bool) → IsRow (h + b.size) (halving size consumer bs) → IsRow h (cond t (lower_half consumer b ∷ upper_half b ∷ bs) (b ∷ halving size consumer bs))
    by_test true rest = (row.0, (omega (arith, row.0), row_moved (h + b.size) (h + half b.size + (b.size - half b.size)) bs (omega arith) row.1))
    by_test false rest = (row.0, rest)

pub split_shared_out : (consumer : ℕ) (bs : List Block) → SplitAllHashes bs → SplitAllHashes (shared_out consumer bs)
split_shared_out consumer [] split = (refl, refl)
split_shared_out consumer (b ∷ bs) split = split_of_row (halving (most_hashes (b ∷ bs)) consumer (b ∷ bs)) (row_halving 0 (most_hashes (b ∷ bs)) consumer (b ∷ bs) split)

-- ---- leaving

pub row_given_back : (h consumer : ℕ) (a b : Block) (bs : List Block) → IsRow h (a ∷ b ∷ bs) → IsRow h (given_back consumer (a ∷ b ∷ bs))
row_given_back h consumer a b [] row = by_tests (is_share_of consumer a) (is_share_of consumer b)
  where
    by_tests : (s t : Bool) → IsRow h (cond s (with_lower a b ∷ []) (cond (t && true) (with_upper b a ∷ []) (a ∷ cond t [] (b ∷ []))))
    by_tests true t = (row.0, omega (arith, row.1.1))
    by_tests false true = (row.0, omega (arith, row.1.1))
    by_tests false false = row
row_given_back h consumer a b (r ∷ bs) row = by_tests (is_share_of consumer a) (is_share_of consumer b) (eqb (length (r ∷ bs)) 0) (grind (arith, nat_tests)) (row_given_back (h + a.size) consumer b r bs row.1)
  where
    by_tests : (s t last : Bool) → last ≡ false → IsRow (h + a.size) (given_back consumer (b ∷ r ∷ bs)) → IsRow h (cond s (with_lower a b ∷ r ∷ bs) (cond (t && last) (with_upper b a ∷ []) (a ∷ given_back consumer (b ∷ r ∷ bs))))
    by_tests true t last more rest = (row.0, row_moved (h + a.size + b.size) (h + (a.size + b.size)) (r ∷ bs) (omega arith) row.1.1)
    by_tests false true true more rest = cc
    by_tests false true false more rest = (row.0, rest)
    by_tests false false last more rest = (row.0, rest)

pub split_given_back : (consumer : ℕ) (bs : List Block) → SplitAllHashes bs → SplitAllHashes (given_back consumer bs)
split_given_back consumer [] split = tt
split_given_back consumer (a ∷ []) split = by_test (is_share_of consumer a)
  where
    by_test : (t : Bool) → SplitAllHashes (cond t [] (a ∷ []))
    by_test true = tt
    by_test false = split
split_given_back consumer (a ∷ b ∷ bs) split = split_of_row (given_back consumer (a ∷ b ∷ bs)) (row_given_back 0 consumer a b bs split)
