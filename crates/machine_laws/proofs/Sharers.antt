-- Who has a share, and how many have one, after a consumer joins or leaves where all hashes are split.
use Rattle.std.proofs.Common.{◌≡◌, ℕ, ◌+◌, List, [], ◌∷◌, map, length, Bool, true, false, cond, eqb, refl, ap, ◌∙◌, sym, suc, arith}
use Rattle.std.specs.Prelude.{◌==◌, ◌&&◌, ◌||◌, not, nat_eq}
use Rattle.std.specs.List.{AllByRecursion, IsDistinct, list_any}
use Rattle.std.proofs.lemmas.Bool.Decides.{nat_tests}
use Rattle.std.proofs.lemmas.Map.Keys.{IsDistinct-head, IsDistinct-tail}
use Rattle.position_core.specs.declared.block.Block.{Block}
use Rattle.delivery_machine.specs.Shares.{lower_half, upper_half, halving, most_hashes, shared_out, is_share_of, with_lower, with_upper, given_back}
use Rattle.machine_laws.proofs.Halving.{largest_there}

-- ---- joining

any_halved : (number size consumer : ℕ) (bs : List Block) → list_any (λ b. b.size == size) bs ≡ true → list_any (is_share_of number) (halving size consumer bs) ≡ (list_any (is_share_of number) bs || consumer == number)
any_halved number size consumer [] there = cc
any_halved number size consumer (b ∷ bs) there = by (eqb b.size size) there (any_halved number size consumer bs)
  where
    here : (new old rest : Bool) → (new || (old || rest)) ≡ ((old || rest) || new)
    here new old rest = grind (arith, nat_tests)

    later : (new old rest more : Bool) → more ≡ (rest || new) → (old || more) ≡ ((old || rest) || new)
    later new old rest more e = grind (arith, nat_tests)

    by : (t : Bool) → (t || list_any (λ x. x.size == size) bs) ≡ true → (list_any (λ x. x.size == size) bs ≡ true → list_any (is_share_of number) (halving size consumer bs) ≡ (list_any (is_share_of number) bs || consumer == number))
        → list_any (is_share_of number) (cond t (lower_half consumer b ∷ upper_half b ∷ bs) (b ∷ halving size consumer bs)) ≡ ((is_share_of number b || list_any (is_share_of number) bs) || consumer == number)
    by true there rest = here (consumer == number) (is_share_of number b) (list_any (is_share_of number) bs)
    by false there rest = later (consumer == number) (is_share_of number b) (list_any (is_share_of number) bs) (list_any (is_share_of number) (halving size consumer bs)) (rest there)

length_halved : (size consumer : ℕ) (bs : List Block) → list_any (λ b. b.size == size) bs ≡ true → length (halving size consumer bs) ≡ length bs + 1
length_halved size consumer [] there = cc
length_halved size consumer (b ∷ bs) there = by (eqb b.size size) there (length_halved size consumer bs)
  where
    by : (t : Bool) → (t || list_any (λ x. x.size == size) bs) ≡ true → (list_any (λ x. x.size == size) bs ≡ true → length (halving size consumer bs) ≡ length bs + 1)
        → length (cond t (lower_half consumer b ∷ upper_half b ∷ bs) (b ∷ halving size consumer bs)) ≡ length (b ∷ bs) + 1
    by true there rest = omega arith
    by false there rest = let more = rest there in omega (arith, more)

pub any_shared_out : (number consumer : ℕ) (bs : List Block) → list_any (is_share_of number) (shared_out consumer bs) ≡ (list_any (is_share_of number) bs || consumer == number)
any_shared_out number consumer [] = alone (consumer == number)
  where
    alone : (t : Bool) → (t || false) ≡ (false || t)
    alone t = grind (arith, nat_tests)
any_shared_out number consumer (b ∷ bs) = any_halved number (most_hashes (b ∷ bs)) consumer (b ∷ bs) (largest_there b bs)

pub length_shared_out : (consumer : ℕ) (bs : List Block) → length (shared_out consumer bs) ≡ length bs + 1
length_shared_out consumer [] = omega arith
length_shared_out consumer (b ∷ bs) = length_halved (most_hashes (b ∷ bs)) consumer (b ∷ bs) (largest_there b bs)

-- ---- leaving

abbrev consumers : List Block → List ℕ
consumers shares = map (λ b. b.consumer) shares

none_of : (c number : ℕ) (bs : List Block) → c ≡ number → AllByRecursion (λ d. nat_eq c d ≡ false) (consumers bs) → list_any (is_share_of number) bs ≡ false
none_of c number [] is all = refl
none_of c number (b ∷ bs) is all = both (is_share_of number b) (list_any (is_share_of number) bs) (other b.consumer all.0) (none_of c number bs is all.1)
  where
    other : (d : ℕ) → nat_eq c d ≡ false → (d == number) ≡ false
    other d e = grind (arith, nat_tests)

    both : (s t : Bool) → s ≡ false → t ≡ false → (s || t) ≡ false
    both s t e f = grind (arith, nat_tests)

-- what is told of a share that goes, and of those that stay
module _ (number consumer : ℕ) where
  gone_first : (c : ℕ) (rest : Bool) → (c == consumer) ≡ true → (consumer == number ≡ true → rest ≡ false) → rest ≡ (((c == number) || rest) && not (number == consumer))
  gone_first c rest is none = by (c == number) (number == consumer) refl refl
    where
      by : (s t : Bool) → (c == number) ≡ s → (number == consumer) ≡ t → rest ≡ ((s || rest) && not t)
      by true true same mine = none (turn consumer number mine) ∙ sym (never (true || rest))
        where
          turn : (a b : ℕ) → (b == a) ≡ true → (a == b) ≡ true
          turn a b e = grind (arith, nat_tests)

          never : (b : Bool) → (b && false) ≡ false
          never b = grind (arith, nat_tests)
      by true false same other = absurd (apart c number consumer same is other)
        where
          apart : (a b d : ℕ) → (a == b) ≡ true → (a == d) ≡ true → (b == d) ≡ false → ⊥
          apart a b d e f g = grind (arith, nat_tests)
      by false true differs mine = absurd (apart c number consumer differs is mine)
        where
          apart : (a b d : ℕ) → (a == b) ≡ false → (a == d) ≡ true → (b == d) ≡ true → ⊥
          apart a b d e f g = grind (arith, nat_tests)
      by false false differs other = keeps rest
        where
          keeps : (b : Bool) → b ≡ ((false || b) && true)
          keeps b = grind (arith, nat_tests)

  stays_first : (c : ℕ) (rest more : Bool) → (c == consumer) ≡ false → more ≡ (rest && not (number == consumer)) → ((c == number) || more) ≡ (((c == number) || rest) && not (number == consumer))
  stays_first c rest more other e = by (c == number) (number == consumer) refl refl e
    where
      by : (s t : Bool) → (c == number) ≡ s → (number == consumer) ≡ t → more ≡ (rest && not t) → (s || more) ≡ ((s || rest) && not t)
      by true true same mine e = absurd (apart c number consumer same mine other)
        where
          apart : (a b d : ℕ) → (a == b) ≡ true → (b == d) ≡ true → (a == d) ≡ false → ⊥
          apart a b d e f g = grind (arith, nat_tests)
      by true false same differs e = refl
      by false true differs mine e = e
      by false false differs other' e = e

  pub any_given_back : (bs : List Block) → IsDistinct nat_eq (consumers bs) → list_any (is_share_of consumer) bs ≡ true → list_any (is_share_of number) (given_back consumer bs) ≡ (list_any (is_share_of number) bs && not (number == consumer))
  any_given_back [] distinct there = cc
  any_given_back (a ∷ []) distinct there = by (is_share_of consumer a) refl
    where
      by : (t : Bool) → is_share_of consumer a ≡ t → list_any (is_share_of number) (cond t [] (a ∷ [])) ≡ ((is_share_of number a || false) && not (number == consumer))
      by true is = gone_first a.consumer false is (λ _. refl)
      by false other = absurd (none (is_share_of consumer a) other there)
        where
          none : (t : Bool) → t ≡ false → (t || false) ≡ true → ⊥
          none t e f = grind (arith, nat_tests)
  any_given_back (a ∷ b ∷ rest) distinct there =
      by (is_share_of consumer a) refl (is_share_of consumer b) refl (eqb (length rest) 0) refl (any_given_back (b ∷ rest) (IsDistinct-tail nat_eq a.consumer (consumers (b ∷ rest)) distinct))
    where
      skip : (t u : Bool) → t ≡ false → (t || u) ≡ true → u ≡ true
      skip t u e f = grind (arith, nat_tests)

      same : (c d : ℕ) → (c == d) ≡ true → (d == number) ≡ true → c ≡ number
      same c d e f = grind (arith, nat_tests)

      some_more : (n : ℕ) → eqb (suc n) 0 ≡ true → ⊥
      some_more n e = grind (arith, nat_tests)

      nobody : (rest : List Block) → eqb (length rest) 0 ≡ true → list_any (is_share_of number) rest ≡ false
      nobody [] none = refl
      nobody (r ∷ rest) none = absurd (some_more (length rest) none)

      by : (s : Bool) → is_share_of consumer a ≡ s → (t : Bool) → is_share_of consumer b ≡ t → (last : Bool) → eqb (length rest) 0 ≡ last
          → (list_any (is_share_of consumer) (b ∷ rest) ≡ true → list_any (is_share_of number) (given_back consumer (b ∷ rest)) ≡ (list_any (is_share_of number) (b ∷ rest) && not (number == consumer)))
          → list_any (is_share_of number) (cond s (with_lower a b ∷ rest) (cond (t && last) (with_upper b a ∷ []) (a ∷ given_back consumer (b ∷ rest)))) ≡ ((is_share_of number a || list_any (is_share_of number) (b ∷ rest)) && not (number == consumer))
      by true is t that last none deeper =
          gone_first a.consumer (list_any (is_share_of number) (b ∷ rest)) is (λ mine. none_of a.consumer number (b ∷ rest) (same a.consumer consumer is mine) (IsDistinct-head nat_eq a.consumer (consumers (b ∷ rest)) distinct))
      by false other true is true none deeper =
          stays_first a.consumer (list_any (is_share_of number) (b ∷ rest)) false other
          (ap (λ u. u) (alone (list_any (is_share_of number) rest) (nobody rest none) (gone_first b.consumer (list_any (is_share_of number) rest) is (λ _. nobody rest none))))
        where
          alone : (u : Bool) → u ≡ false → u ≡ ((is_share_of number b || u) && not (number == consumer)) → false ≡ ((is_share_of number b || u) && not (number == consumer))
          alone u e f = sym e ∙ f
      by false other true is false more deeper = stays_first a.consumer (list_any (is_share_of number) (b ∷ rest)) (list_any (is_share_of number) (given_back consumer (b ∷ rest))) other (deeper (skip (is_share_of consumer a) _ other there))
      by false other false not_this last more deeper = stays_first a.consumer (list_any (is_share_of number) (b ∷ rest)) (list_any (is_share_of number) (given_back consumer (b ∷ rest))) other (deeper (skip (is_share_of consumer a) _ other there))

pub length_given_back : (consumer : ℕ) (bs : List Block) → list_any (is_share_of consumer) bs ≡ true → length (given_back consumer bs) + 1 ≡ length bs
length_given_back consumer [] there = cc
length_given_back consumer (a ∷ []) there = by (is_share_of consumer a) refl
  where
    by : (t : Bool) → is_share_of consumer a ≡ t → length (cond t [] (a ∷ [])) + 1 ≡ 1
    by true is = omega arith
    by false other = absurd (none (is_share_of consumer a) other there)
      where
        none : (t : Bool) → t ≡ false → (t || false) ≡ true → ⊥
        none t e f = grind (arith, nat_tests)
length_given_back consumer (a ∷ b ∷ rest) there = by (is_share_of consumer a) refl (is_share_of consumer b && eqb (length rest) 0) refl (length_given_back consumer (b ∷ rest))
  where
    skip : (t u : Bool) → t ≡ false → (t || u) ≡ true → u ≡ true
    skip t u e f = grind (arith, nat_tests)

    last : (t : Bool) (n : ℕ) → (t && eqb n 0) ≡ true → n ≡ 0
    last t n e = grind (arith, nat_tests)

    by : (s : Bool) → is_share_of consumer a ≡ s → (t : Bool) → (is_share_of consumer b && eqb (length rest) 0) ≡ t → (list_any (is_share_of consumer) (b ∷ rest) ≡ true → length (given_back consumer (b ∷ rest)) + 1 ≡ length (b ∷ rest))
        → length (cond s (with_lower a b ∷ rest) (cond t (with_upper b a ∷ []) (a ∷ given_back consumer (b ∷ rest)))) + 1 ≡ length (a ∷ b ∷ rest)
    by true is t that deeper = omega arith
    by false other true is deeper = let none = last (is_share_of consumer b) (length rest) is in omega (arith, none)
    by false other false more deeper = let fewer = deeper (skip (is_share_of consumer a) _ other there) in omega (arith, fewer)
