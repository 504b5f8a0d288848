-- Sticky shares: who has which hash after a consumer joins with its ranges.
use Rattle.std.proofs.Common.{◌≡◌, ℕ, ◌+◌, ◌-◌, ◌<◌, ◌≤◌, Bool, true, false, cond, List, [], ◌∷◌, length, Some, None, ◌⊎◌, inl, inr, refl, sym, subst, ap, ◌∙◌, arith}
use Rattle.std.specs.Prelude.{◌==◌, ◌&&◌, ◌||◌, nat_le, nat_lt}
use Rattle.std.specs.List.{AllByRecursion, list_any}
use Rattle.std.proofs.lemmas.Bool.{cases_lt}
use Rattle.std.proofs.lemmas.Bool.Decides.{nat_tests}
use Rattle.position_core.specs.declared.block.Block.{Block}
use Rattle.position_core.specs.declared.ranges.HashRange.{HashRange}
use Rattle.position_core.specs.Ranges.{in_range, have_hash, Rise}
use Rattle.position_core.proofs.RangesInOrder.{rise_within}
use Rattle.delivery_machine.specs.Shares.{has_hash, owner_among, block_of, with_block, with_ranges, meets, is_share_of, IsRow}
use Rattle.delivery_machine.specs.ShareSets.{AreApart}
use Rattle.delivery_machine.proofs.Sharing.{outside, bounds, owner_here, owner_past, owner_alike}

neither : (s t : Bool) → (s || t) ≡ false → (s ≡ false) × (t ≡ false)
neither s t e = (grind (arith, nat_tests), grind (arith, nat_tests))

-- ---- blocks apart

pub apart_from : (before from : ℕ) (bs : List Block) → before ≤ from → AreApart from bs → AreApart before bs
apart_from before from [] le apart = omega (arith, apart)
apart_from before from (b ∷ bs) le apart = (omega (arith, apart.0), apart.1, apart.2)

pub apart_within : (from : ℕ) (bs : List Block) → AreApart from bs → from ≤ 65536
apart_within from [] apart = apart
apart_within from (b ∷ bs) apart = let rest = apart_within (b.from + b.size) bs apart.2 in omega (arith, rest, apart.0)

-- a row of blocks with some hashes each
pub row_apart : (from : ℕ) (bs : List Block) → IsRow from bs → AllByRecursion (λ b. 0 < b.size) bs → AreApart from bs
row_apart from [] row some = omega (arith, row)
row_apart from (b ∷ bs) row some =
    (omega (arith, row.0), some.0, apart_from (b.from + b.size) (from + b.size) bs (omega (arith, row.0)) (row_apart (from + b.size) bs row.1 some.1))

-- a hash before them all is nobody's
pub nobody_before : (hash from : ℕ) (bs : List Block) → hash < from → AreApart from bs → owner_among bs hash ≡ None
nobody_before hash from [] low apart = refl
nobody_before hash from (b ∷ bs) low apart =
    owner_past hash b bs (outside hash b (inl (omega (arith, low, apart.0)))) ∙ nobody_before hash (b.from + b.size) bs (omega (arith, low, apart.0)) apart.2

-- ---- a block more

-- no hash of the block is in one of the others
abbrev pub IsBeside : Block → Block → Type 0
IsBeside b c = (c.from + c.size ≤ b.from) ⊎ (b.from + b.size ≤ c.from)

abbrev pub IsFree : Block → List Block → Type 0
IsFree b bs = AllByRecursion (IsBeside b) bs

turned_by : (b c : Block) → 0 < b.size → c.from ≤ b.from → IsBeside b c → c.from + c.size ≤ b.from
turned_by b c some from (inl before) = before
turned_by b c some from (inr behind) = absurd (omega (arith, behind))

before_it : (b c : Block) → b.from < c.from → IsBeside b c → b.from + b.size ≤ c.from
before_it b c from (inl before) = absurd (omega (arith, before))
before_it b c from (inr behind) = behind

first_is : (m n : ℕ) → m < n → nat_lt m n ≡ true
first_is m n low = grind (arith, nat_tests)

later_is : (m n : ℕ) → n ≤ m → nat_lt m n ≡ false
later_is m n le = grind (arith, nat_tests)

apart_with : (from : ℕ) (b : Block) (bs : List Block) → from ≤ b.from → 0 < b.size → b.from + b.size ≤ 65536 → IsFree b bs → AreApart from bs → AreApart from (with_block b bs)
apart_with from b [] low some within free apart = (low, some, within)
apart_with from b (c ∷ bs) low some within free apart =
    elim (cases_lt b.from c.from) [
      | inl before ↦ subst (λ t. AreApart from (cond t (b ∷ c ∷ bs) (c ∷ with_block b bs))) (sym (first_is b.from c.from before)) (low, some, (before_it b c before free.0, apart.1, apart.2))
      | inr behind ↦
          subst (λ t. AreApart from (cond t (b ∷ c ∷ bs) (c ∷ with_block b bs))) (sym (later_is b.from c.from behind))
          (apart.0, apart.1, apart_with (c.from + c.size) b bs (turned_by b c some behind free.0) some within free.1 apart.2)
    ]

-- its hashes are its consumer's, and every other hash is whose it was
owner_with : (hash : ℕ) (b : Block) (bs : List Block) → 0 < b.size → IsFree b bs → owner_among (with_block b bs) hash ≡ cond (has_hash hash b) (Some b.consumer) (owner_among bs hash)
owner_with hash b [] some free = by (has_hash hash b) refl
  where
    by : (t : Bool) → has_hash hash b ≡ t → owner_among (b ∷ []) hash ≡ cond t (Some b.consumer) None
    by true here = owner_here hash b [] here
    by false past = owner_past hash b [] past
owner_with hash b (c ∷ bs) some free = elim (cases_lt b.from c.from) [
  | inl before ↦ subst (λ t. owner_among (cond t (b ∷ c ∷ bs) (c ∷ with_block b bs)) hash ≡ cond (has_hash hash b) (Some b.consumer) (owner_among (c ∷ bs) hash)) (sym (first_is b.from c.from before)) (at_first (has_hash hash b) refl)
  | inr behind ↦
      subst (λ t. owner_among (cond t (b ∷ c ∷ bs) (c ∷ with_block b bs)) hash ≡ cond (has_hash hash b) (Some b.consumer) (owner_among (c ∷ bs) hash)) (sym (later_is b.from c.from behind))
      (at_later (turned_by b c some behind free.0) (has_hash hash b) refl (owner_with hash b bs some free.1))
]
  where
    at_first : (t : Bool) → has_hash hash b ≡ t → owner_among (b ∷ c ∷ bs) hash ≡ cond t (Some b.consumer) (owner_among (c ∷ bs) hash)
    at_first true here = owner_here hash b (c ∷ bs) here
    at_first false past = owner_past hash b (c ∷ bs) past

    at_later : c.from + c.size ≤ b.from → (t : Bool) → has_hash hash b ≡ t → owner_among (with_block b bs) hash ≡ cond (has_hash hash b) (Some b.consumer) (owner_among bs hash)
        → owner_among (c ∷ with_block b bs) hash ≡ cond t (Some b.consumer) (owner_among (c ∷ bs) hash)
    at_later before true here rest =
        owner_past hash c (with_block b bs) (outside hash c (inr (let at = bounds hash b here in omega (arith, at.0, before))))
        ∙ rest ∙ ap (λ t. cond t (Some b.consumer) (owner_among bs hash)) here
    at_later before false past rest = owner_alike hash c c (with_block b bs) bs refl refl (rest ∙ ap (λ t. cond t (Some b.consumer) (owner_among bs hash)) past)

any_with : (p : Block → Bool) (b : Block) (bs : List Block) → list_any p (with_block b bs) ≡ (p b || list_any p bs)
any_with p b [] = refl
any_with p b (c ∷ bs) = by (nat_lt b.from c.from) (any_with p b bs)
  where
    turned : (s t u : Bool) → (s || (t || u)) ≡ (t || (s || u))
    turned s t u = grind (arith, nat_tests)

    by : (t : Bool) → list_any p (with_block b bs) ≡ (p b || list_any p bs) → list_any p (cond t (b ∷ c ∷ bs) (c ∷ with_block b bs)) ≡ (p b || (p c || list_any p bs))
    by true rest = refl
    by false rest = ap (λ t. p c || t) rest ∙ turned (p c) (p b) (list_any p bs)

length_with : (b : Block) (bs : List Block) → length (with_block b bs) ≡ length bs + 1
length_with b [] = omega arith
length_with b (c ∷ bs) = by (nat_lt b.from c.from) (length_with b bs)
  where
    by : (t : Bool) → length (with_block b bs) ≡ length bs + 1 → length (cond t (b ∷ c ∷ bs) (c ∷ with_block b bs)) ≡ length (c ∷ bs) + 1
    by true rest = omega arith
    by false rest = omega (arith, rest)

free_with : (x b : Block) (bs : List Block) → IsBeside x b → IsFree x bs → IsFree x (with_block b bs)
free_with x b [] beside free = (beside, tt)
free_with x b (c ∷ bs) beside free = by (nat_lt b.from c.from) (free_with x b bs beside free.1)
  where
    by : (t : Bool) → IsFree x (with_block b bs) → IsFree x (cond t (b ∷ c ∷ bs) (c ∷ with_block b bs))
    by true rest = (beside, free)
    by false rest = (free.0, rest)

-- ---- ranges more

module _ (consumer : ℕ) where
  abbrev pub AreFree : List HashRange → List Block → Type 0
  AreFree rs bs = AllByRecursion (λ r. IsFree (block_of consumer r) bs) rs

  ends : (r : HashRange) → r.first ≤ r.last → (block_of consumer r).from + (block_of consumer r).size ≡ r.last + 1
  ends r le = omega (arith, le)

  in_block : (hash : ℕ) (r : HashRange) → r.first ≤ r.last → has_hash hash (block_of consumer r) ≡ in_range hash r
  in_block hash r le = by r.first r.last le
    where
      by : (first last : ℕ) → first ≤ last → (nat_le first hash && nat_lt hash (first + (last + 1 - first))) ≡ (nat_le first hash && nat_le hash last)
      by first last le = grind (arith, nat_tests)

  -- those that stand behind a range go on to be free where it is taken
  free_behind : (r : HashRange) (from : ℕ) (rs : List HashRange) (bs : List Block) → r.first ≤ r.last → r.last < from → Rise from rs → AreFree rs bs → AreFree rs (with_block (block_of consumer r) bs)
  free_behind r from [] bs le low rise free = tt
  free_behind r from (x ∷ rs) bs le low rise free = (
    free_with (block_of consumer x) (block_of consumer r) bs (inl (omega (arith, ends r le, low, rise.0))) free.0,
    free_behind r (x.last + 1) rs bs le (omega (arith, low, rise.0, rise.1)) rise.2 free.1,
  )

  pub ranges_apart : (from : ℕ) (rs : List HashRange) (bs : List Block) → Rise from rs → AreFree rs bs → AreApart 0 bs → AreApart 0 (with_ranges consumer rs bs)
  ranges_apart from [] bs rise free apart = apart
  ranges_apart from (r ∷ rs) bs rise free apart =
      ranges_apart (r.last + 1) rs (with_block (block_of consumer r) bs) rise.2 (free_behind r (r.last + 1) rs bs rise.1 (omega arith) rise.2 free.1)
      (apart_with 0 (block_of consumer r) bs (omega arith) (omega (arith, rise.1)) (let within = rise_within (r.last + 1) rs rise.2 in omega (arith, ends r rise.1, within)) free.0 apart)

  -- what the consumer has it keeps, and a hash that is in none of the ranges is whose it was
  owner_kept : (hash from : ℕ) (rs : List HashRange) (bs : List Block) → Rise from rs → AreFree rs bs → owner_among bs hash ≡ Some consumer → owner_among (with_ranges consumer rs bs) hash ≡ Some consumer
  owner_kept hash from [] bs rise free mine = mine
  owner_kept hash from (r ∷ rs) bs rise free mine =
      owner_kept hash (r.last + 1) rs (with_block (block_of consumer r) bs) rise.2 (free_behind r (r.last + 1) rs bs rise.1 (omega arith) rise.2 free.1)
      (owner_with hash (block_of consumer r) bs (omega (arith, rise.1)) free.0 ∙ ap (cond (has_hash hash (block_of consumer r)) (Some consumer)) mine ∙ same (has_hash hash (block_of consumer r)))
    where
      same : (t : Bool) → cond t (Some consumer) (Some consumer) ≡ Some consumer
      same true = refl
      same false = refl

  pub owner_taken : (hash from : ℕ) (rs : List HashRange) (bs : List Block) → Rise from rs → AreFree rs bs → have_hash rs hash ≡ true → owner_among (with_ranges consumer rs bs) hash ≡ Some consumer
  owner_taken hash from [] bs rise free have = cc
  owner_taken hash from (r ∷ rs) bs rise free have =
      let after = free_behind r (r.last + 1) rs bs rise.1 (omega arith) rise.2 free.1 in
      by after (in_range hash r) refl have (owner_taken hash (r.last + 1) rs (with_block (block_of consumer r) bs) rise.2 after)
    where
      by : AreFree rs (with_block (block_of consumer r) bs) → (t : Bool) → in_range hash r ≡ t → (t || have_hash rs hash) ≡ true
          → (have_hash rs hash ≡ true → owner_among (with_ranges consumer rs (with_block (block_of consumer r) bs)) hash ≡ Some consumer)
          → owner_among (with_ranges consumer rs (with_block (block_of consumer r) bs)) hash ≡ Some consumer
      by after true here have rest =
          owner_kept hash (r.last + 1) rs (with_block (block_of consumer r) bs) rise.2 after
          (owner_with hash (block_of consumer r) bs (omega (arith, rise.1)) free.0 ∙ ap (λ t. cond t (Some consumer) (owner_among bs hash)) (in_block hash r rise.1 ∙ here))
      by after false past have rest = rest have

  pub owner_stays : (hash from : ℕ) (rs : List HashRange) (bs : List Block) → Rise from rs → AreFree rs bs → have_hash rs hash ≡ false → owner_among (with_ranges consumer rs bs) hash ≡ owner_among bs hash
  owner_stays hash from [] bs rise free past = refl
  owner_stays hash from (r ∷ rs) bs rise free past =
      let none = neither (in_range hash r) (have_hash rs hash) past in
      owner_stays hash (r.last + 1) rs (with_block (block_of consumer r) bs) rise.2 (free_behind r (r.last + 1) rs bs rise.1 (omega arith) rise.2 free.1) none.1
      ∙ owner_with hash (block_of consumer r) bs (omega (arith, rise.1)) free.0
      ∙ ap (λ t. cond t (Some consumer) (owner_among bs hash)) (in_block hash r rise.1 ∙ none.0)

  pub length_with_ranges : (rs : List HashRange) (bs : List Block) → length (with_ranges consumer rs bs) ≡ length rs + length bs
  length_with_ranges [] bs = omega arith
  length_with_ranges (r ∷ rs) bs = let rest = length_with_ranges rs (with_block (block_of consumer r) bs) in let one = length_with (block_of consumer r) bs in omega (arith, rest, one)

  any_of_ranges : (p : Block → Bool) (mine : Bool) (rs : List HashRange) (bs : List Block) → ((r : HashRange) → p (block_of consumer r) ≡ mine) → list_any p bs ≡ (list_any p bs || mine) → list_any p (with_ranges consumer rs bs) ≡ list_any p bs
  any_of_ranges p mine [] bs each there = refl
  any_of_ranges p mine (r ∷ rs) bs each there =
      let more : list_any p (with_block (block_of consumer r) bs) ≡ list_any p bs = any_with p (block_of consumer r) bs ∙ ap (λ t. t || list_any p bs) (each r) ∙ turned mine (list_any p bs) there in
      any_of_ranges p mine rs (with_block (block_of consumer r) bs) each (more ∙ there ∙ ap (λ t. t || mine) (sym more)) ∙ more
    where
      turned : (s t : Bool) → t ≡ (t || s) → (s || t) ≡ t
      turned s t e = grind (arith, nat_tests)

  -- the consumer has a share besides those that had one
  pub any_with_ranges : (number : ℕ) (rs : List HashRange) (bs : List Block) → 0 < length rs → list_any (is_share_of number) (with_ranges consumer rs bs) ≡ (list_any (is_share_of number) bs || consumer == number)
  any_with_ranges number [] bs some = absurd (omega arith)
  any_with_ranges number (r ∷ rs) bs some =
      any_of_ranges (is_share_of number) (consumer == number) rs (with_block (block_of consumer r) bs) (λ _. refl) (there ∙ again (list_any (is_share_of number) bs) (consumer == number) ∙ ap (λ t. t || consumer == number) (sym there)) ∙ there
    where
      turned : (s t : Bool) → (s || t) ≡ (t || s)
      turned s t = grind (arith, nat_tests)

      again : (s t : Bool) → (s || t) ≡ ((s || t) || t)
      again s t = grind (arith, nat_tests)

      there : list_any (is_share_of number) (with_block (block_of consumer r) bs) ≡ (list_any (is_share_of number) bs || consumer == number)
      there = any_with (is_share_of number) (block_of consumer r) bs ∙ turned (consumer == number) (list_any (is_share_of number) bs)

  -- ---- what is not taken is free

  free_of_range : (r : HashRange) (bs : List Block) → r.first ≤ r.last → list_any (meets r) bs ≡ false → IsFree (block_of consumer r) bs
  free_of_range r [] le none = tt
  free_of_range r (b ∷ bs) le none =
      let both = neither (meets r b) (list_any (meets r) bs) none in (
        elim (cases_lt r.last b.from) [
          | inl behind ↦ inr (omega (arith, ends r le, behind))
          | inr from ↦ elim (cases_lt r.first (b.from + b.size)) [
            | inl low ↦ absurd (meet b.from (r.last + 1) r.first (b.from + b.size) (omega (arith, from)) low both.0)
            | inr before ↦ inl before
          ]
        ],
        free_of_range r bs le both.1,
      )
    where
      meet : (a b c d : ℕ) → a < b → c < d → (nat_lt a b && nat_lt c d) ≡ false → ⊥
      meet a b c d low less not_met = grind (arith, nat_tests)

  pub free_of : (from : ℕ) (rs : List HashRange) (bs : List Block) → Rise from rs → list_any (λ r. list_any (meets r) bs) rs ≡ false → AreFree rs bs
  free_of from [] bs rise none = tt
  free_of from (r ∷ rs) bs rise none =
      let both = neither (list_any (meets r) bs) (list_any (λ (x : HashRange). list_any (meets x) bs) rs) none in
      (free_of_range r bs rise.1 both.0, free_of (r.last + 1) rs bs rise.2 both.1)

-- a range is in somebody's share where all hashes are
pub row_taken : (from : ℕ) (r : HashRange) (bs : List Block) → IsRow from bs → from ≤ r.first → r.first ≤ r.last → r.last < 65536 → list_any (meets r) bs ≡ true
row_taken from r [] row low le within = absurd (omega (arith, row))
row_taken from r (b ∷ bs) row low le within = elim (cases_lt r.first (b.from + b.size)) [
  | inl here ↦ first_of (meets r b) (list_any (meets r) bs) (meet b.from (r.last + 1) r.first (b.from + b.size) (omega (arith, row.0)) here)
  | inr past ↦ second_of (meets r b) (list_any (meets r) bs) (row_taken (from + b.size) r bs row.1 (omega (arith, row.0, past)) le within)
]
  where
    meet : (a b c d : ℕ) → a < b → c < d → (nat_lt a b && nat_lt c d) ≡ true
    meet a b c d low less = grind (arith, nat_tests)

    first_of : (s t : Bool) → s ≡ true → (s || t) ≡ true
    first_of s t e = grind (arith, nat_tests)

    second_of : (s t : Bool) → t ≡ true → (s || t) ≡ true
    second_of s t e = grind (arith, nat_tests)
