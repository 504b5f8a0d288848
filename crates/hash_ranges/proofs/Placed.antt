-- Blocks that are put among others, and a block that is halved.
use Rattle.std.proofs.Common.{◌≡◌, ◌≢◌, ℕ, zero, suc, ◌+◌, ◌-◌, ◌<◌, ◌≤◌, Bool, true, false, cond, List, [], ◌∷◌, ◌++◌, take, length, get_or, set, Some, None, refl, sym, ap, ◌∙◌, subst, arith}
use Rattle.std.specs.Prelude.{◌==◌, nat_le, nat_lt}
use Rattle.std.specs.List.{insert, list_any, position}
use Rattle.std.specs.List.Sorted.{IsPartitionPoint}
use Rattle.std.proofs.lemmas.Bool.{lt-ltb, le-ltb, leb-true, leb-false, eqb-true}
use Rattle.std.proofs.lemmas.List.{take_more}
use Rattle.std.proofs.lemmas.List.Quantifiers.{position-Some}
use Rattle.delivery_machine.proofs.Places.{fails_everywhere}
use Rattle.position_core.specs.declared.block.Block.{Block}
use Rattle.position_core.specs.declared.ranges.HashRange.{HashRange}
use Rattle.position_core.specs.Ranges.{Rise, AreRanges}
use Rattle.position_core.proofs.RangesInOrder.{rise_within}
use Rattle.delivery_machine.specs.Shares.{block_of, half, lower_half, upper_half, halving, meets, with_block, with_ranges}
use Rattle.delivery_machine.specs.ShareSets.{AreApart}
use Rattle.delivery_machine.proofs.Sticky.{AreFree, ranges_apart, free_of}

-- ---- a block is put in

pub put_at : (b : Block) (bs : List Block) (i : ℕ) → i ≤ length bs → ((k : ℕ) (d : Block) → k < i → (get_or bs k d).from ≤ b.from) → ((d : Block) → i < length bs → b.from < (get_or bs i d).from) → insert bs i b ≡ with_block b bs
put_at b [] zero within low high = refl
put_at b [] (suc i) within low high = absurd (omega arith)
put_at b (c ∷ bs) zero within low high =
    sym (ap (λ t. cond t (b ∷ c ∷ bs) (c ∷ with_block b bs)) (lt-ltb b.from c.from (high c (omega arith))))
put_at b (c ∷ bs) (suc i) within low high =
    ap (λ cs. c ∷ cs) (put_at b bs i (omega arith) (λ k d below. low (suc k) d (omega arith)) (λ d below. high d (omega arith)))
    ∙ sym (ap (λ t. cond t (b ∷ c ∷ bs) (c ∷ with_block b bs)) (le-ltb b.from c.from (low zero c (omega arith))))

-- the place that a search by halving finds
pub put_found : (b : Block) (bs : List Block) (i : ℕ) → i ≤ length bs → IsPartitionPoint (λ c. nat_le c.from b.from ≡ true) (λ c. nat_le c.from b.from ≡ false) bs i → insert bs i b ≡ with_block b bs
put_found b bs i within parts =
    put_at b bs i within (λ k d below. leb-true _ b.from (parts.0 k d (omega arith) below)) (λ d inside. leb-false _ b.from (parts.1 i d (omega arith) inside))

-- ---- ranges are put in, one after another

rise_taken : (from i : ℕ) (rs : List HashRange) → Rise from rs → Rise from (take i rs)
rise_taken from zero rs rise = rise_within from rs rise
rise_taken from (suc i) [] rise = rise
rise_taken from (suc i) (r ∷ rs) rise = (rise.0, rise.1, rise_taken (r.last + 1) i rs rise.2)

with_ranges-append : (consumer : ℕ) (rs ss : List HashRange) (bs : List Block) → with_ranges consumer (rs ++ ss) bs ≡ with_ranges consumer ss (with_ranges consumer rs bs)
with_ranges-append consumer [] ss bs = refl
with_ranges-append consumer (r ∷ rs) ss bs = with_ranges-append consumer rs ss (with_block (block_of consumer r) bs)

module _ (consumer : ℕ) (rs : List HashRange) (bs : List Block) (i : ℕ) where
  taken_free : AreFree consumer rs bs → AreFree consumer (take i rs) bs
  taken_free free = by i rs free
    where
      by : (i : ℕ) (rs : List HashRange) → AreFree consumer rs bs → AreFree consumer (take i rs) bs
      by zero rs free = tt
      by (suc i) [] free = tt
      by (suc i) (r ∷ rs) free = (free.0, by i rs free.1)

  -- the blocks still stand apart
  pub taken_apart : AreRanges rs → list_any (λ r. list_any (meets r) bs) rs ≡ false → AreApart 0 bs → AreApart 0 (with_ranges consumer (take i rs) bs)
  taken_apart are free apart = ranges_apart consumer 0 (take i rs) bs (rise_taken 0 i rs are.rise) (taken_free (free_of consumer 0 rs bs are.rise free)) apart

  pub one_more : (d : HashRange) → i < length rs → with_ranges consumer (take (i + 1) rs) bs ≡ with_block (block_of consumer (get_or rs i d)) (with_ranges consumer (take i rs) bs)
  one_more d within = ap (λ (rs : List HashRange). with_ranges consumer rs bs) (take_more rs i d within) ∙ with_ranges-append consumer (take i rs) (get_or rs i d ∷ []) bs

-- each of the ranges is one
pub range_at : (from : ℕ) (rs : List HashRange) (i : ℕ) (d : HashRange) → Rise from rs → i < length rs → ((get_or rs i d).first ≤ (get_or rs i d).last) × ((get_or rs i d).last < 65536)
range_at from [] i d rise within = absurd (omega arith)
range_at from (r ∷ rs) zero d rise within = (rise.1, omega (arith, rise_within (r.last + 1) rs rise.2))
range_at from (r ∷ rs) (suc i) d rise within = range_at (r.last + 1) rs i d rise.2 (omega arith)

-- ---- a block is halved

halved_at : (size consumer : ℕ) (bs : List Block) (i : ℕ) (d : Block) → i < length bs → ((k : ℕ) → k < i → ((get_or bs k d).size == size) ≡ false) → ((get_or bs i d).size == size) ≡ true → insert (set bs i (upper_half (get_or bs i d))) i (lower_half consumer (get_or bs i d)) ≡ halving size consumer bs
halved_at size consumer [] i d within none here = absurd (omega arith)
halved_at size consumer (b ∷ bs) zero d within none here =
    sym (ap (λ t. cond t (lower_half consumer b ∷ upper_half b ∷ bs) (b ∷ halving size consumer bs)) here)
halved_at size consumer (b ∷ bs) (suc i) d within none here =
    ap (λ cs. b ∷ cs) (halved_at size consumer bs i d (omega arith) (λ k below. none (suc k) (omega arith)) here)
    ∙ sym (ap (λ t. cond t (lower_half consumer b ∷ upper_half b ∷ bs) (b ∷ halving size consumer bs)) (none zero (omega arith)))

none_of_size : (size consumer : ℕ) (bs : List Block) → ((k : ℕ) (d : Block) → k < length bs → ((get_or bs k d).size == size) ≡ false) → bs ≡ halving size consumer bs
none_of_size size consumer [] none = refl
none_of_size size consumer (b ∷ bs) none =
    ap (λ cs. b ∷ cs) (none_of_size size consumer bs (λ k d below. none (suc k) d (omega arith)))
    ∙ sym (ap (λ t. cond t (lower_half consumer b ∷ upper_half b ∷ bs) (b ∷ halving size consumer bs)) (none zero b (omega arith)))

-- no block has the size
pub none_halved : (size consumer : ℕ) (bs : List Block) → None ≡ position (λ b. b.size == size) bs → bs ≡ halving size consumer bs
none_halved size consumer bs none = none_of_size size consumer bs (fails_everywhere (λ b. b.size == size) bs (sym none))

-- the first of the size has this place
pub halved_first : (size consumer : ℕ) (bs : List Block) (i : ℕ) (b : Block) (taken : ℕ) → Some i ≡ position (λ b. b.size == size) bs → b ≡ get_or bs i b → taken ≡ half b.size
    → insert (set bs i (record { from = b.from + taken; size = b.size - taken; consumer = b.consumer })) i (record { from = b.from; size = taken; consumer = consumer }) ≡ halving size consumer bs
halved_first size consumer bs i b taken found is half_is =
    let at = position-Some (λ b. b.size == size) bs i b (sym found) in
    ap (λ n. insert (set bs i (record { from = b.from + n; size = b.size - n; consumer = b.consumer })) i (record { from = b.from; size = n; consumer = consumer })) half_is
    ∙ ap (λ (c : Block). insert (set bs i (upper_half c)) i (lower_half consumer c)) is
    ∙ halved_at size consumer bs i b at.0 at.2 at.1

pub apart_halved : (size consumer a : ℕ) (bs : List Block) → 2 ≤ size → AreApart a bs → AreApart a (halving size consumer bs)
apart_halved size consumer a [] two apart = apart
apart_halved size consumer a (b ∷ bs) two apart = by (b.size == size) refl (apart_halved size consumer (b.from + b.size) bs two apart.2)
  where
    by : (t : Bool) → (b.size == size) ≡ t → AreApart (b.from + b.size) (halving size consumer bs) → AreApart a (cond t (lower_half consumer b ∷ upper_half b ∷ bs) (b ∷ halving size consumer bs))
    by true is _ =
        let same : b.size ≡ size = eqb-true b.size size is in
        let whole : b.from + half b.size + (b.size - half b.size) ≡ b.from + b.size = omega arith in
        (apart.0, omega (arith, same), (omega arith, omega (arith, same), subst (λ n. AreApart n bs) (sym whole) apart.2))
    by false is rest = (apart.0, apart.1, rest)

-- ---- with ranges there are blocks

with_some : (b : Block) (bs : List Block) → with_block b bs ≢ []
with_some b [] none = cc
with_some b (c ∷ bs) none = by (nat_lt b.from c.from) none
  where
    by : (t : Bool) → cond t (b ∷ c ∷ bs) (c ∷ with_block b bs) ≡ [] → ⊥
    by true none = cc
    by false none = cc

still_some : (consumer : ℕ) (ranges : List HashRange) (bs : List Block) → bs ≢ [] → with_ranges consumer ranges bs ≢ []
still_some consumer [] bs some = some
still_some consumer (r ∷ rs) bs some = still_some consumer rs (with_block (block_of consumer r) bs) (with_some (block_of consumer r) bs)

pub ranges_some : (consumer : ℕ) (ranges : List HashRange) (bs : List Block) → 0 < length ranges → with_ranges consumer ranges bs ≢ []
ranges_some consumer [] bs some = absurd (omega arith)
ranges_some consumer (r ∷ rs) bs some = still_some consumer rs (with_block (block_of consumer r) bs) (with_some (block_of consumer r) bs)
