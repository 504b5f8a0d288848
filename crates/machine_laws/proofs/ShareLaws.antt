-- Shares that split all hashes go on to do so as consumers join and leave, and change hands by the rule.
use Rattle.std.proofs.Common.{◌≡◌, ℕ, ◌+◌, ◌*◌, ◌<◌, ◌≤◌, zero, suc, Bool, true, false, cond, eqb, List, [], ◌∷◌, map, length, Some, inl, inr, refl, sym, subst, arith, All}
use Rattle.std.specs.Prelude.{◌≢◌, ◌||◌, ◌&&◌, nat_eq}
use Rattle.std.specs.List.{AllByRecursion, IsDistinct, list_any}
use Rattle.std.proofs.lemmas.Bool.{cases_lt}
use Rattle.std.proofs.lemmas.Bool.Decides.{nat_tests}
use Rattle.std.proofs.lemmas.Map.Keys.{IsDistinct-cons, IsDistinct-head, IsDistinct-tail}
use Rattle.position_core.specs.declared.block.Block.{Block}
use Rattle.delivery_machine.specs.Shares.{owner_among, lower_half, upper_half, halving, most_hashes, shared_out, all_hashes, is_share_of, with_lower, with_upper, given_back, SplitAllHashes}
use Rattle.delivery_machine.specs.ShareSets.{AreSplit, TakesHalf, GivesBack}
use Rattle.delivery_machine.proofs.SharesSplit.{split_shared_out, split_given_back}
use Rattle.delivery_machine.proofs.Sharing.{goes, inside, owner_here}
use Rattle.machine_laws.proofs.Halving.{halves, HalvesFrom, within_most, largest_there, row_total}

module _ {A : Type 0} (P : A → Type 0) where
  pub all_from : (xs : List A) → AllByRecursion P xs → All P xs
  all_from [] all k d below = absurd (omega arith)
  all_from (x ∷ xs) all zero d below = all.0
  all_from (x ∷ xs) all (suc k) d below = all_from xs all.1 k d (omega arith)

  pub all_to : (xs : List A) → All P xs → AllByRecursion P xs
  all_to [] all = tt
  all_to (x ∷ xs) all = (all 0 x (omega arith), all_to xs (λ k d below. all (suc k) d (omega arith)))

abbrev consumers : List Block → List ℕ
consumers shares = map (λ b. b.consumer) shares

-- ---- what holds of each consumer

module _ (P : ℕ → Type 0) where
  each_halved : (size consumer : ℕ) (bs : List Block) → P consumer → AllByRecursion P (consumers bs) → AllByRecursion P (consumers (halving size consumer bs))
  each_halved size consumer [] new all = tt
  each_halved size consumer (b ∷ bs) new all = by (eqb b.size size) (each_halved size consumer bs new all.1)
    where
      by : (t : Bool) → AllByRecursion P (consumers (halving size consumer bs)) → AllByRecursion P (consumers (cond t (lower_half consumer b ∷ upper_half b ∷ bs) (b ∷ halving size consumer bs)))
      by true rest = (new, all)
      by false rest = (all.0, rest)

  each_given_back : (consumer : ℕ) (bs : List Block) → AllByRecursion P (consumers bs) → AllByRecursion P (consumers (given_back consumer bs))
  each_given_back consumer [] all = tt
  each_given_back consumer (a ∷ []) all = by (is_share_of consumer a)
    where
      by : (t : Bool) → AllByRecursion P (consumers (cond t [] (a ∷ [])))
      by true = tt
      by false = all
  each_given_back consumer (a ∷ b ∷ rest) all = by (is_share_of consumer a) (is_share_of consumer b && eqb (length rest) 0) (each_given_back consumer (b ∷ rest) all.1)
    where
      by : (s t : Bool) → AllByRecursion P (consumers (given_back consumer (b ∷ rest))) → AllByRecursion P (consumers (cond s (with_lower a b ∷ rest) (cond t (with_upper b a ∷ []) (a ∷ given_back consumer (b ∷ rest)))))
      by true t deeper = all.1
      by false true deeper = (all.0, tt)
      by false false deeper = (all.0, deeper)

-- ---- no consumer has two

differs : (consumer : ℕ) (b : Block) → is_share_of consumer b ≡ false → (nat_eq consumer b.consumer ≡ false) × (nat_eq b.consumer consumer ≡ false)
differs consumer b e = (grind (arith, nat_tests), grind (arith, nat_tests))

or_both : (s t : Bool) → (s || t) ≡ false → (s ≡ false) × (t ≡ false)
or_both s t e = (grind (arith, nat_tests), grind (arith, nat_tests))

apart : (consumer : ℕ) (bs : List Block) → list_any (is_share_of consumer) bs ≡ false → AllByRecursion (λ c. nat_eq consumer c ≡ false) (consumers bs)
apart consumer [] none = tt
apart consumer (b ∷ bs) none =
    let both = or_both (is_share_of consumer b) (list_any (is_share_of consumer) bs) none in
    ((differs consumer b both.0).0, apart consumer bs both.1)

distinct_halved : (size consumer : ℕ) (bs : List Block) → list_any (is_share_of consumer) bs ≡ false → IsDistinct nat_eq (consumers bs) → IsDistinct nat_eq (consumers (halving size consumer bs))
distinct_halved size consumer [] none distinct = distinct
distinct_halved size consumer (b ∷ bs) none distinct = by (eqb b.size size) (distinct_halved size consumer bs (or_both _ _ none).1 (IsDistinct-tail nat_eq b.consumer (consumers bs) distinct))
  where
    by : (t : Bool) → IsDistinct nat_eq (consumers (halving size consumer bs)) → IsDistinct nat_eq (consumers (cond t (lower_half consumer b ∷ upper_half b ∷ bs) (b ∷ halving size consumer bs)))
    by true rest = IsDistinct-cons nat_eq consumer (b.consumer ∷ consumers bs) (apart consumer (b ∷ bs) none) distinct
    by false rest =
        IsDistinct-cons nat_eq b.consumer (consumers (halving size consumer bs))
        (each_halved (λ c. nat_eq b.consumer c ≡ false) size consumer bs (differs consumer b (or_both _ _ none).0).1 (IsDistinct-head nat_eq b.consumer (consumers bs) distinct)) rest

distinct_given_back : (consumer : ℕ) (bs : List Block) → IsDistinct nat_eq (consumers bs) → IsDistinct nat_eq (consumers (given_back consumer bs))
distinct_given_back consumer [] distinct = distinct
distinct_given_back consumer (a ∷ []) distinct = by (is_share_of consumer a)
  where
    by : (t : Bool) → IsDistinct nat_eq (consumers (cond t [] (a ∷ [])))
    by true = IsDistinct-tail nat_eq a.consumer [] distinct
    by false = distinct
distinct_given_back consumer (a ∷ b ∷ rest) distinct =
    by (is_share_of consumer a) (is_share_of consumer b && eqb (length rest) 0) (distinct_given_back consumer (b ∷ rest) (IsDistinct-tail nat_eq a.consumer (consumers (b ∷ rest)) distinct))
  where
    none : IsDistinct nat_eq []
    none = last (consumers (a ∷ b ∷ rest)) distinct
      where
        last : (cs : List ℕ) → IsDistinct nat_eq cs → IsDistinct nat_eq []
        last [] all = all
        last (c ∷ cs) all = last cs (IsDistinct-tail nat_eq c cs all)

    by : (s t : Bool) → IsDistinct nat_eq (consumers (given_back consumer (b ∷ rest))) → IsDistinct nat_eq (consumers (cond s (with_lower a b ∷ rest) (cond t (with_upper b a ∷ []) (a ∷ given_back consumer (b ∷ rest)))))
    by true t deeper = IsDistinct-tail nat_eq a.consumer (consumers (b ∷ rest)) distinct
    by false true deeper = IsDistinct-cons nat_eq a.consumer [] tt none
    by false false deeper =
        IsDistinct-cons nat_eq a.consumer (consumers (given_back consumer (b ∷ rest)))
        (each_given_back (λ c. nat_eq a.consumer c ≡ false) consumer (b ∷ rest) (IsDistinct-head nat_eq a.consumer (consumers (b ∷ rest)) distinct)) deeper

-- ---- each share has a hash

abbrev HasSome : Block → Type 0
HasSome b = 0 < b.size

some_halved : (size consumer : ℕ) (bs : List Block) → 2 ≤ size → AllByRecursion HasSome bs → AllByRecursion HasSome (halving size consumer bs)
some_halved size consumer [] large some = tt
some_halved size consumer (b ∷ bs) large some = by (eqb b.size size) refl (some_halved size consumer bs large some.1)
  where
    is_size : (m n : ℕ) → eqb m n ≡ true → m ≡ n
    is_size m n e = grind (arith, nat_tests)

    by : (t : Bool) → eqb b.size size ≡ t → AllByRecursion HasSome (halving size consumer bs) → AllByRecursion HasSome (cond t (lower_half consumer b ∷ upper_half b ∷ bs) (b ∷ halving size consumer bs))
    by true is rest = let same = is_size b.size size is in (omega arith, (omega arith, some.1))
    by false other rest = (some.0, rest)

some_given_back : (consumer : ℕ) (bs : List Block) → AllByRecursion HasSome bs → AllByRecursion HasSome (given_back consumer bs)
some_given_back consumer [] some = tt
some_given_back consumer (a ∷ []) some = by (is_share_of consumer a)
  where
    by : (t : Bool) → AllByRecursion HasSome (cond t [] (a ∷ []))
    by true = tt
    by false = some
some_given_back consumer (a ∷ b ∷ rest) some = by (is_share_of consumer a) (is_share_of consumer b && eqb (length rest) 0) (some_given_back consumer (b ∷ rest) some.1)
  where
    by : (s t : Bool) → AllByRecursion HasSome (given_back consumer (b ∷ rest)) → AllByRecursion HasSome (cond s (with_lower a b ∷ rest) (cond t (with_upper b a ∷ []) (a ∷ given_back consumer (b ∷ rest))))
    by true t deeper = (omega (arith, some.0), some.1.1)
    by false true deeper = (omega (arith, some.0), tt)
    by false false deeper = (some.0, deeper)

-- ---- the laws

-- of fewer than 64 shares the largest has two hashes and more
large : (b : Block) (bs : List Block) → SplitAllHashes (b ∷ bs) → length (b ∷ bs) < 64 → 2 ≤ most_hashes (b ∷ bs)
large b bs split few =
    elim (cases_lt (most_hashes (b ∷ bs)) 2) [
      | inl small ↦ absurd (too_few (length (b ∷ bs)) (most_hashes (b ∷ bs)) few small (row_total 0 (most_hashes (b ∷ bs)) (b ∷ bs) (within_most (b ∷ bs) (most_hashes (b ∷ bs)) (omega arith)) split))
      | inr enough ↦ enough
    ]
  where
    too_few : (n m : ℕ) → n < 64 → m < 2 → 65536 ≤ 0 + n * m → ⊥
    too_few n zero few small total = omega (arith, none n, total)
      where
        none : (n : ℕ) → n * 0 ≡ 0
        none n = grind arith
    too_few n (suc zero) few small total = omega (arith, one n, total)
      where
        one : (n : ℕ) → n * 1 ≡ n
        one n = grind arith
    too_few n (suc (suc m)) few small total = omega (arith, small)

pub split_joined : (consumer : ℕ) (shares : List Block) → AreSplit shares → list_any (is_share_of consumer) shares ≡ false → length shares < 64 → AreSplit (shared_out consumer shares)
split_joined consumer [] are away few = record {
  split = split_shared_out consumer [] tt;
  some = all_from HasSome (all_hashes consumer ∷ []) (omega arith, tt);
  distinct = IsDistinct-cons nat_eq consumer [] tt are.distinct;
}
split_joined consumer (b ∷ bs) are away few = record {
  split = split_shared_out consumer (b ∷ bs) are.split;
  some = all_from HasSome (halving (most_hashes (b ∷ bs)) consumer (b ∷ bs)) (some_halved (most_hashes (b ∷ bs)) consumer (b ∷ bs) (large b bs are.split few) (all_to HasSome (b ∷ bs) are.some));
  distinct = distinct_halved (most_hashes (b ∷ bs)) consumer (b ∷ bs) away are.distinct;
}

pub split_left : (consumer : ℕ) (shares : List Block) → AreSplit shares → AreSplit (given_back consumer shares)
split_left consumer shares are = record {
  split = split_given_back consumer shares are.split;
  some = all_from HasSome (given_back consumer shares) (some_given_back consumer shares (all_to HasSome shares are.some));
  distinct = distinct_given_back consumer shares are.distinct;
}

takes_half : (consumer : ℕ) (b : Block) (bs : List Block) → SplitAllHashes (b ∷ bs) → TakesHalf consumer (b ∷ bs) (shared_out consumer (b ∷ bs))
takes_half consumer b bs split =
    let most : ℕ = most_hashes (b ∷ bs) in
    let halved : HalvesFrom 0 most consumer (b ∷ bs) (halving most consumer (b ∷ bs)) = halves 0 most consumer (b ∷ bs) split (largest_there b bs) in
    let sized : halved.giver.size ≡ most = halved.sized in
    record {
      giver = halved.giver;
      largest = record {
        there = halved.there;
        most = all_from (λ x. x.size ≤ halved.giver.size) (b ∷ bs) (within_most (b ∷ bs) halved.giver.size (omega arith));
        first = all_from (λ x. x.size ≡ halved.giver.size → halved.giver.from ≤ x.from) (b ∷ bs)
            (subst (λ (n : ℕ). AllByRecursion (λ x. x.size ≡ n → halved.giver.from ≤ x.from) (b ∷ bs)) (sym sized) halved.first);
      };
      taken = halved.taken;
      others = halved.others;
    }

pub first_takes_all : (consumer : ℕ) (shares : List Block) → shares ≡ [] → (hash : ℕ) → hash < 65536 → owner_among (shared_out consumer shares) hash ≡ Some consumer
first_takes_all consumer [] none hash below = owner_here hash (all_hashes consumer) [] (inside hash (all_hashes consumer) (omega arith) (omega arith))
first_takes_all consumer (b ∷ bs) none hash below = cc

pub others_take_half : (consumer : ℕ) (shares : List Block) → AreSplit shares → shares ≢ [] → TakesHalf consumer shares (shared_out consumer shares)
others_take_half consumer [] are some = absurd (some refl)
others_take_half consumer (b ∷ bs) are some = takes_half consumer b bs are.split

pub gives_back : (consumer : ℕ) (shares : List Block) → AreSplit shares → list_any (is_share_of consumer) shares ≡ true → GivesBack consumer shares (given_back consumer shares)
gives_back consumer [] are there = cc
gives_back consumer (b ∷ bs) are there =
    let from = goes 0 consumer (b ∷ bs) are.split (all_to HasSome (b ∷ bs) are.some) there in
    record { gone = from.gone; there = from.there; leaver = from.leaver; given = from.given; others = from.others }
