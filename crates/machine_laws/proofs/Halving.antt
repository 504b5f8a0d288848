-- Who has which hash after a consumer joins.
use Rattle.std.proofs.Common.{◌≡◌, ℕ, ◌+◌, ◌*◌, ◌≤◌, suc, Bool, true, false, cond, eqb, List, [], ◌∷◌, length, Some, inl, inr, refl, sym, ap, ◌∙◌, arith, Contains}
use Rattle.std.specs.Prelude.{◌||◌, ◌==◌, max}
use Rattle.std.specs.List.{AllByRecursion, list_any}
use Rattle.std.proofs.lemmas.Bool.{cases_lt}
use Rattle.std.proofs.lemmas.Bool.Decides.{nat_tests}
use Rattle.position_core.specs.declared.block.Block.{Block}
use Rattle.delivery_machine.specs.Shares.{has_hash, owner_among, half, lower_half, upper_half, halving, most_hashes, IsRow}
use Rattle.delivery_machine.proofs.Sharing.{inside, outside, bounds, owner_here, owner_past, owner_alike, contains_here, contains_more}

-- each share of a row begins at its start or after it
pub row_begins : (h start : ℕ) (bs : List Block) → h ≤ start → IsRow start bs → AllByRecursion (λ b. h ≤ b.from) bs
row_begins h start [] le row = tt
row_begins h start (b ∷ bs) le row = (omega (arith, row.0, le), row_begins h (start + b.size) bs (omega (arith, le)) row.1)

-- the first share of the size, in a row that begins at a hash, and whose its hashes are then
pub record HalvesFrom (start size consumer : ℕ) (shares new : List Block) : Type 0 where
  pub giver : Block
  pub there : Contains shares giver
  pub sized : giver.size ≡ size
  pub after : start ≤ giver.from
  pub first : AllByRecursion (λ b. b.size ≡ size → giver.from ≤ b.from) shares
  pub taken : (hash : ℕ) → has_hash hash (lower_half consumer giver) ≡ true → owner_among new hash ≡ Some consumer
  pub others : (hash : ℕ) → has_hash hash (lower_half consumer giver) ≡ false → owner_among new hash ≡ owner_among shares hash

all_from_here : (size from : ℕ) (bs : List Block) → AllByRecursion (λ b. from ≤ b.from) bs → AllByRecursion (λ b. b.size ≡ size → from ≤ b.from) bs
all_from_here size from [] all = tt
all_from_here size from (b ∷ bs) all = (λ _. all.0, all_from_here size from bs all.1)

-- what is left of a share has the hashes that it had but for its lower half
left_of : (consumer hash : ℕ) (b : Block) → has_hash hash (lower_half consumer b) ≡ false → has_hash hash (upper_half b) ≡ has_hash hash b
left_of consumer hash b past =
    elim (cases_lt hash b.from) [
      | inl before ↦ outside hash (upper_half b) (inl (omega arith)) ∙ sym (outside hash b (inl before))
      | inr from ↦ elim (cases_lt hash (b.from + half b.size)) [
        | inl lower ↦ absurd (both (has_hash hash (lower_half consumer b)) (inside hash (lower_half consumer b) from lower) past)
        | inr upper ↦ elim (cases_lt hash (b.from + b.size)) [
          | inl in_b ↦ inside hash (upper_half b) upper (omega arith) ∙ sym (inside hash b from in_b)
          | inr far ↦ outside hash (upper_half b) (inr (omega arith)) ∙ sym (outside hash b (inr far))
        ]
      ]
    ]
  where
    both : (t : Bool) → t ≡ true → t ≡ false → ⊥
    both t e f = cc

pub halves : (start size consumer : ℕ) (shares : List Block) → IsRow start shares → list_any (λ b. b.size == size) shares ≡ true → HalvesFrom start size consumer shares (halving size consumer shares)
halves start size consumer [] row there = cc
halves start size consumer (b ∷ bs) row there = by_test (λ any. halves (start + b.size) size consumer bs row.1 any) (eqb b.size size) refl
  where
    here : b.size ≡ size → HalvesFrom start size consumer (b ∷ bs) (lower_half consumer b ∷ upper_half b ∷ bs)
    here is = record {
      giver = b;
      there = contains_here b bs;
      sized = is;
      after = omega (arith, row.0);
      first = (λ _. omega arith, all_from_here size b.from bs (row_begins b.from (start + b.size) bs (omega (arith, row.0)) row.1));
      taken = λ hash in_lower. owner_here hash (lower_half consumer b) (upper_half b ∷ bs) in_lower;
      others = λ hash past. owner_past hash (lower_half consumer b) (upper_half b ∷ bs) past ∙ owner_alike hash (upper_half b) b bs bs (left_of consumer hash b past) refl refl;
    }

    later : (b.size ≡ size → ⊥) → HalvesFrom (start + b.size) size consumer bs (halving size consumer bs) → HalvesFrom start size consumer (b ∷ bs) (b ∷ halving size consumer bs)
    later other deeper = record {
      giver = deeper.giver;
      there = contains_more deeper.giver b bs deeper.there;
      sized = deeper.sized;
      after = omega (arith, deeper.after);
      first = (λ is. absurd (other is), deeper.first);
      taken = λ hash in_lower.
          let at = bounds hash (lower_half consumer deeper.giver) in_lower in
          owner_past hash b (halving size consumer bs) (outside hash b (inr (omega (arith, at.0, deeper.after, row.0)))) ∙ deeper.taken hash in_lower;
      others = λ hash past. owner_alike hash b b (halving size consumer bs) bs refl refl (deeper.others hash past);
    }

    by_test : (list_any (λ b. b.size == size) bs ≡ true → HalvesFrom (start + b.size) size consumer bs (halving size consumer bs))
        → (t : Bool) → eqb b.size size ≡ t → HalvesFrom start size consumer (b ∷ bs) (cond t (lower_half consumer b ∷ upper_half b ∷ bs) (b ∷ halving size consumer bs))
    by_test recur true is = here (is_size b.size size is)
      where
        is_size : (m n : ℕ) → eqb m n ≡ true → m ≡ n
        is_size m n e = grind (arith, nat_tests)
    by_test recur false other = later (is_not b.size size other) (recur (skip (eqb b.size size) _ other there))
      where
        is_not : (m n : ℕ) → eqb m n ≡ false → m ≡ n → ⊥
        is_not m n e f = grind (arith, nat_tests)

        skip : (t u : Bool) → t ≡ false → (t || u) ≡ true → u ≡ true
        skip t u e f = grind (arith, nat_tests)

-- ---- the largest share

pub within_most : (bs : List Block) (most : ℕ) → most_hashes bs ≤ most → AllByRecursion (λ b. b.size ≤ most) bs
within_most [] most le = tt
within_most (b ∷ bs) most le = (omega arith, within_most bs most (omega arith))

-- some share has as many hashes as any
pub largest_there : (b : Block) (bs : List Block) → list_any (λ x. x.size == most_hashes (b ∷ bs)) (b ∷ bs) ≡ true
largest_there b [] = here b.size
  where
    here : (n : ℕ) → (eqb n (max n 0) || false) ≡ true
    here n = grind (arith, nat_tests)
largest_there b (c ∷ bs) =
    elim (cases_lt b.size (most_hashes (c ∷ bs))) [
      | inl less ↦
          let same : max b.size (most_hashes (c ∷ bs)) ≡ most_hashes (c ∷ bs) = omega arith in
          or_later (eqb b.size (max b.size (most_hashes (c ∷ bs)))) _ (ap (λ n. list_any (λ (x : Block). x.size == n) (c ∷ bs)) same ∙ largest_there c bs)
      | inr most ↦ or_here _ _ (is_it b.size (most_hashes (c ∷ bs)) most)
    ]
  where
    or_later : (t u : Bool) → u ≡ true → (t || u) ≡ true
    or_later t u e = grind (arith, nat_tests)

    or_here : (t u : Bool) → t ≡ true → (t || u) ≡ true
    or_here t u e = grind (arith, nat_tests)

    is_it : (m n : ℕ) → n ≤ m → eqb m (max m n) ≡ true
    is_it m n le = grind (arith, nat_tests)

-- the hashes of a row are at most those of its largest share, so many times
pub row_total : (start most : ℕ) (bs : List Block) → AllByRecursion (λ b. b.size ≤ most) bs → IsRow start bs → 65536 ≤ start + length bs * most
row_total start most [] all row = omega (arith, row)
row_total start most (b ∷ bs) all row =
    let rest = row_total (start + b.size) most bs all.1 row.1 in
    let more = one_more (length bs) most in
    omega (arith, rest, all.0, more)
  where
    one_more : (n m : ℕ) → suc n * m ≡ m + n * m
    one_more n m = grind arith
