-- Blocks that stand apart, in the order of their hashes, and what is found among them.
use Rattle.std.proofs.Common.{◌≡◌, ℕ, zero, suc, ◌+◌, ◌<◌, ◌≤◌, Bool, true, false, cond, List, [], ◌∷◌, length, get_or, Option, Some, None, ◌⊎◌, inl, inr, refl, sym, ap, ◌∙◌, subst, arith}
use Rattle.std.specs.Prelude.{◌&&◌, ◌||◌, nat_le, nat_lt}
use Rattle.std.specs.List.{find, list_any, slice_get}
use Rattle.std.specs.Option.{option_map}
use Rattle.std.specs.List.Sorted.{IsNonDecreasingBy, IsPartitionPoint}
use Rattle.std.proofs.lemmas.Bool.{cases_lt, lt-ltb, le-ltb, le-leb, lt-leb, leb-true, leb-false, ltb-false}
use Rattle.std.proofs.lemmas.List.Folds.{find_at}
use Rattle.std.proofs.lemmas.List.Sums.{position_or_len_is}
use Rattle.std.proofs.lemmas.Option.{same_Some}
use Rattle.position_core.specs.declared.block.Block.{Block}
use Rattle.position_core.specs.declared.ranges.HashRange.{HashRange}
use Rattle.delivery_machine.specs.Shares.{has_hash, owner_among, meets}
use Rattle.delivery_machine.specs.ShareSets.{AreApart}
use Rattle.delivery_machine.proofs.Sticky.{apart_within}

-- a block that is among them ends with the hashes or before
pub ends_among : (a : ℕ) (bs : List Block) (i : ℕ) (d : Block) → AreApart a bs → i < length bs → (get_or bs i d).from + (get_or bs i d).size ≤ 65536
ends_among a [] i d apart within = absurd (omega arith)
ends_among a (b ∷ bs) zero d apart within = apart_within (b.from + b.size) bs apart.2
ends_among a (b ∷ bs) (suc i) d apart within = ends_among (b.from + b.size) bs i d apart.2 (omega arith)

-- where they begin and where they end never falls
begin_behind : (a : ℕ) (bs : List Block) (i : ℕ) (d : Block) → AreApart a bs → i < length bs → a ≤ (get_or bs i d).from
begin_behind a [] i d apart within = absurd (omega arith)
begin_behind a (b ∷ bs) zero d apart within = apart.0
begin_behind a (b ∷ bs) (suc i) d apart within = omega (arith, begin_behind (b.from + b.size) bs i d apart.2 (omega arith), apart.0)

pub begins_rise : (a : ℕ) (bs : List Block) → AreApart a bs → IsNonDecreasingBy (λ b. b.from) bs
begins_rise a [] apart i j d low within = absurd (omega arith)
begins_rise a (b ∷ bs) apart zero zero d low within = omega arith
begins_rise a (b ∷ bs) apart zero (suc j) d low within = omega (arith, begin_behind (b.from + b.size) bs j d apart.2 (omega arith))
begins_rise a (b ∷ bs) apart (suc i) zero d low within = absurd (omega arith)
begins_rise a (b ∷ bs) apart (suc i) (suc j) d low within = begins_rise (b.from + b.size) bs apart.2 i j d (omega arith) (omega arith)

pub ends_rise : (a : ℕ) (bs : List Block) → AreApart a bs → IsNonDecreasingBy (λ b. b.from + b.size) bs
ends_rise a [] apart i j d low within = absurd (omega arith)
ends_rise a (b ∷ bs) apart zero zero d low within = omega arith
ends_rise a (b ∷ bs) apart zero (suc j) d low within = omega (arith, begin_behind (b.from + b.size) bs j d apart.2 (omega arith))
ends_rise a (b ∷ bs) apart (suc i) zero d low within = absurd (omega arith)
ends_rise a (b ∷ bs) apart (suc i) (suc j) d low within = ends_rise (b.from + b.size) bs apart.2 i j d (omega arith) (omega arith)

-- the place that a search by halving finds
pub place_found : (hash : ℕ) (bs : List Block) (i : ℕ) → i ≤ length bs → IsPartitionPoint (λ b. nat_le (b.from + b.size) hash ≡ true) (λ b. nat_le (b.from + b.size) hash ≡ false) bs i → slice_get bs i ≡ find (λ b. nat_lt hash (b.from + b.size)) bs
place_found hash bs i within parts =
    ap (slice_get bs) (sym (position_or_len_is (λ b. nat_lt hash (b.from + b.size)) bs i none within
    (λ k below. le-ltb hash ((get_or bs k none).from + (get_or bs k none).size) (leb-true _ hash (parts.0 k none (omega arith) below)))
    (λ inside. lt-ltb hash ((get_or bs i none).from + (get_or bs i none).size) (leb-false _ hash (parts.1 i none (omega arith) inside)))))
    ∙ sym (find_at (λ b. nat_lt hash (b.from + b.size)) bs)
  where
    none : Block
    none = record { from = 0; size = 0; consumer = 0 }

-- ---- one block and the others

-- the first that ends behind the hash
abbrev pub first_from : ℕ → List Block → Option Block
first_from hash bs = find (λ b. nat_lt hash (b.from + b.size)) bs

module _ (hash : ℕ) (b : Block) (bs : List Block) where
  pub first_here : hash < b.from + b.size → first_from hash (b ∷ bs) ≡ Some b
  first_here high = ap (λ t. cond t (Some b) (first_from hash bs)) (lt-ltb hash (b.from + b.size) high)

  pub first_later : b.from + b.size ≤ hash → first_from hash (b ∷ bs) ≡ first_from hash bs
  first_later past = ap (λ t. cond t (Some b) (first_from hash bs)) (le-ltb hash (b.from + b.size) past)

  pub has_here : b.from ≤ hash → hash < b.from + b.size → find (has_hash hash) (b ∷ bs) ≡ Some b
  has_here low high =
      ap (λ t. cond (t && nat_lt hash (b.from + b.size)) (Some b) (find (has_hash hash) bs)) (le-leb b.from hash low)
      ∙ ap (λ t. cond t (Some b) (find (has_hash hash) bs)) (lt-ltb hash (b.from + b.size) high)

  pub has_later : b.from + b.size ≤ hash → find (has_hash hash) (b ∷ bs) ≡ find (has_hash hash) bs
  has_later past =
      ap (λ t. cond (nat_le b.from hash && t) (Some b) (find (has_hash hash) bs)) (le-ltb hash (b.from + b.size) past)
      ∙ ap (λ t. cond t (Some b) (find (has_hash hash) bs)) (never (nat_le b.from hash))
    where
      never : (t : Bool) → (t && false) ≡ false
      never true = refl
      never false = refl

  pub has_before : hash < b.from → find (has_hash hash) (b ∷ bs) ≡ find (has_hash hash) bs
  has_before low = ap (λ t. cond (t && nat_lt hash (b.from + b.size)) (Some b) (find (has_hash hash) bs)) (lt-leb b.from hash low)

none_before : (hash a : ℕ) (bs : List Block) → hash < a → AreApart a bs → find (has_hash hash) bs ≡ None
none_before hash a [] low apart = refl
none_before hash a (b ∷ bs) low apart =
    has_before hash b bs (omega (arith, apart.0)) ∙ none_before hash (b.from + b.size) bs (omega (arith, apart.0)) apart.2

-- ---- the block that a hash is in

some_is_not : (b : Block) → None ≡ Some b → ⊥
some_is_not b e = cc

pub in_first : (hash a : ℕ) (bs : List Block) (b : Block) → AreApart a bs → Some b ≡ first_from hash bs → b.from ≤ hash → Some b ≡ find (has_hash hash) bs
in_first hash a [] b apart is low = absurd (some_is_not b (sym is))
in_first hash a (c ∷ bs) b apart is low = elim (cases_lt hash (c.from + c.size)) [
  | inl here ↦
      let same : Some b ≡ Some c = is ∙ first_here hash c bs here in
      let from : b.from ≡ c.from = the_from same in
      same ∙ sym (has_here hash c bs (omega (arith, from)) here)
  | inr past ↦ in_first hash (c.from + c.size) bs b apart.2 (is ∙ first_later hash c bs past) low ∙ sym (has_later hash c bs past)
]
  where
    the_from : Some b ≡ Some c → b.from ≡ c.from
    the_from e = cc

pub before_first : (hash a : ℕ) (bs : List Block) (b : Block) → AreApart a bs → Some b ≡ first_from hash bs → hash < b.from → None ≡ find (has_hash hash) bs
before_first hash a [] b apart is low = refl
before_first hash a (c ∷ bs) b apart is low = elim (cases_lt hash (c.from + c.size)) [
  | inl here ↦
      let from : b.from ≡ c.from = the_from (is ∙ first_here hash c bs here) in
      sym (has_before hash c bs (omega (arith, from)) ∙ none_before hash (c.from + c.size) bs here apart.2)
  | inr past ↦ before_first hash (c.from + c.size) bs b apart.2 (is ∙ first_later hash c bs past) low ∙ sym (has_later hash c bs past)
]
  where
    the_from : Some b ≡ Some c → b.from ≡ c.from
    the_from e = cc

pub none_first : (hash a : ℕ) (bs : List Block) → AreApart a bs → None ≡ first_from hash bs → None ≡ find (has_hash hash) bs
none_first hash a [] apart is = refl
none_first hash a (c ∷ bs) apart is = elim (cases_lt hash (c.from + c.size)) [
  | inl here ↦ absurd (some_is_not c (is ∙ first_here hash c bs here))
  | inr past ↦ none_first hash (c.from + c.size) bs apart.2 (is ∙ first_later hash c bs past) ∙ sym (has_later hash c bs past)
]

-- ---- the blocks one after another

-- the first that ends behind the hash: what it has is its consumer's, and what is before it nobody's
pub record IsNextFrom (from : ℕ) (bs : List Block) (b : Block) : Type 0 where
  pub behind : from < b.from + b.size
  pub end : b.from + b.size ≤ 65536
  pub owned : (hash : ℕ) → b.from ≤ hash → hash < b.from + b.size → owner_among bs hash ≡ Some b.consumer
  pub free : (hash : ℕ) → from ≤ hash → hash < b.from → owner_among bs hash ≡ None

next_behind : (from a : ℕ) (bs : List Block) (b : Block) → AreApart a bs → Some b ≡ first_from from bs → (a ≤ b.from) × IsNextFrom from bs b
next_behind from a [] b apart is = absurd (some_is_not b (sym is))
next_behind from a (c ∷ bs) b apart is = elim (cases_lt from (c.from + c.size)) [
  | inl here ↦ subst (λ (x : Block). (a ≤ x.from) × IsNextFrom from (c ∷ bs) x) (same_Some c b (sym (is ∙ first_here from c bs here))) (
    apart.0,
    record {
      behind = here;
      end = apart_within (c.from + c.size) bs apart.2;
      owned = λ hash low high. ap (option_map (λ (x : Block). x.consumer)) (has_here hash c bs low high);
      free = λ hash _ low. ap (option_map (λ (x : Block). x.consumer)) (has_before hash c bs low ∙ none_before hash (c.from + c.size) bs (omega (arith, low)) apart.2);
    },
  )
  | inr past ↦
      let rest = next_behind from (c.from + c.size) bs b apart.2 (is ∙ first_later from c bs past) in (
        omega (arith, rest.0, apart.0),
        record {
          behind = rest.1.behind;
          end = rest.1.end;
          owned = λ hash low high. ap (option_map (λ (x : Block). x.consumer)) (has_later hash c bs (omega (arith, rest.0, low))) ∙ rest.1.owned hash low high;
          free = λ hash low high. ap (option_map (λ (x : Block). x.consumer)) (has_later hash c bs (omega (arith, past, low))) ∙ rest.1.free hash low high;
        },
      )
]

pub next_from : (from : ℕ) (bs : List Block) (b : Block) → AreApart 0 bs → Some b ≡ first_from from bs → IsNextFrom from bs b
next_from from bs b apart is = (next_behind from 0 bs b apart is).1

-- there is none more
pub free_from : (from : ℕ) (bs : List Block) → None ≡ first_from from bs → (hash : ℕ) → from ≤ hash → owner_among bs hash ≡ None
free_from from [] is hash low = refl
free_from from (c ∷ bs) is hash low = elim (cases_lt from (c.from + c.size)) [
  | inl here ↦ absurd (some_is_not c (is ∙ first_here from c bs here))
  | inr past ↦
      ap (option_map (λ (x : Block). x.consumer)) (has_later hash c bs (omega (arith, past, low)))
      ∙ free_from from bs (is ∙ first_later from c bs past) hash low
]

-- ---- a range among the blocks

module _ (r : HashRange) (b : Block) where
  pub meets_at : b.from ≤ r.last → r.first < b.from + b.size → meets r b ≡ true
  meets_at low high = ap (λ t. t && nat_lt r.first (b.from + b.size)) (lt-ltb b.from (r.last + 1) (omega arith)) ∙ lt-ltb r.first (b.from + b.size) high

  pub meets_before : r.last < b.from → meets r b ≡ false
  meets_before low = ap (λ t. t && nat_lt r.first (b.from + b.size)) (le-ltb b.from (r.last + 1) (omega arith))

  pub meets_behind : b.from + b.size ≤ r.first → meets r b ≡ false
  meets_behind past = ap (λ t. nat_lt b.from (r.last + 1) && t) (le-ltb r.first (b.from + b.size) past) ∙ never (nat_lt b.from (r.last + 1))
    where
      never : (t : Bool) → (t && false) ≡ false
      never true = refl
      never false = refl

  -- a block that it does not meet is before it or behind it
  pub beside : meets r b ≡ false → (r.last < b.from) ⊎ (b.from + b.size ≤ r.first)
  beside not = elim (cases_lt r.last b.from) [
    | inl before ↦ inl before
    | inr low ↦ inr (ltb-false r.first (b.from + b.size) (sym (ap (λ t. t && nat_lt r.first (b.from + b.size)) (lt-ltb b.from (r.last + 1) (omega arith))) ∙ not))
  ]

none_met : (r : HashRange) (a : ℕ) (bs : List Block) → r.last < a → AreApart a bs → list_any (meets r) bs ≡ false
none_met r a [] low apart = refl
none_met r a (b ∷ bs) low apart =
    ap (λ t. t || list_any (meets r) bs) (meets_before r b (omega (arith, apart.0)))
    ∙ none_met r (b.from + b.size) bs (omega (arith, apart.0)) apart.2

-- only the first that ends behind its first hash need be asked
pub meets_first : (r : HashRange) (a : ℕ) (bs : List Block) (b : Block) → AreApart a bs → Some b ≡ first_from r.first bs → nat_le b.from r.last ≡ list_any (meets r) bs
meets_first r a [] b apart is = absurd (some_is_not b (sym is))
meets_first r a (c ∷ bs) b apart is = elim (cases_lt r.first (c.from + c.size)) [
  | inl here ↦
      let from : b.from ≡ c.from = the_from (is ∙ first_here r.first c bs here) in
      ap (λ n. nat_le n r.last) from ∙ elim (cases_lt r.last c.from) [
        | inl before ↦ lt-leb c.from r.last before ∙ sym (ap (λ t. t || list_any (meets r) bs) (meets_before r c before) ∙ none_met r (c.from + c.size) bs (omega (arith, before)) apart.2)
        | inr low ↦ le-leb c.from r.last low ∙ sym (ap (λ t. t || list_any (meets r) bs) (meets_at r c low here))
      ]
  | inr past ↦
      meets_first r (c.from + c.size) bs b apart.2 (is ∙ first_later r.first c bs past)
      ∙ sym (ap (λ t. t || list_any (meets r) bs) (meets_behind r c past))
]
  where
    the_from : Some b ≡ Some c → b.from ≡ c.from
    the_from e = cc

pub meets_none : (r : HashRange) (a : ℕ) (bs : List Block) → AreApart a bs → None ≡ first_from r.first bs → false ≡ list_any (meets r) bs
meets_none r a [] apart is = refl
meets_none r a (c ∷ bs) apart is = elim (cases_lt r.first (c.from + c.size)) [
  | inl here ↦ absurd (some_is_not c (is ∙ first_here r.first c bs here))
  | inr past ↦
      meets_none r (c.from + c.size) bs apart.2 (is ∙ first_later r.first c bs past)
      ∙ sym (ap (λ t. t || list_any (meets r) bs) (meets_behind r c past))
]
