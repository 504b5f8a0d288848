-- Sticky shares: who has which hash after a consumer leaves.
use Rattle.std.proofs.Common.{◌≡◌, ℕ, ◌+◌, Bool, true, false, cond, List, [], ◌∷◌, Some, None, inl, inr, refl, sym, subst, ap, ◌∙◌, arith}
use Rattle.std.specs.Prelude.{◌≢◌, ◌==◌, ◌&&◌, ◌||◌, not}
use Rattle.std.specs.List.{filter, list_any}
use Rattle.std.proofs.lemmas.Bool.{cases_Bool}
use Rattle.std.proofs.lemmas.Bool.Decides.{nat_tests}
use Rattle.position_core.specs.declared.block.Block.{Block}
use Rattle.delivery_machine.specs.Shares.{has_hash, owner_among, is_share_of}
use Rattle.delivery_machine.specs.ShareSets.{AreApart}
use Rattle.delivery_machine.proofs.Sharing.{bounds, owner_here, owner_past, owner_alike}
use Rattle.delivery_machine.proofs.Sticky.{apart_from, nobody_before}

module _ (consumer : ℕ) where
  abbrev pub others : List Block → List Block
  others bs = filter (λ b. not (is_share_of consumer b)) bs

  pub others_apart : (from : ℕ) (bs : List Block) → AreApart from bs → AreApart from (others bs)
  others_apart from [] apart = apart
  others_apart from (b ∷ bs) apart = by (is_share_of consumer b) (others_apart (b.from + b.size) bs apart.2)
    where
      by : (t : Bool) → AreApart (b.from + b.size) (others bs) → AreApart from (cond (not t) (b ∷ others bs) (others bs))
      by true rest = apart_from from (b.from + b.size) (others bs) (omega (arith, apart.0)) rest
      by false rest = (apart.0, apart.1, rest)

  pub owner_gone : (hash from : ℕ) (bs : List Block) → AreApart from bs → owner_among bs hash ≡ Some consumer → owner_among (others bs) hash ≡ None
  owner_gone hash from [] apart mine = cc
  owner_gone hash from (b ∷ bs) apart mine = elim (cases_Bool (has_hash hash b)) [
    | inl here ↦
        let is : b.consumer ≡ consumer = same b.consumer (sym (owner_here hash b bs here) ∙ mine) in
        subst (λ t. owner_among (cond (not t) (b ∷ others bs) (others bs)) hash ≡ None) (sym (it_is b.consumer is))
        (nobody_before hash (b.from + b.size) (others bs) (let at = bounds hash b here in omega (arith, at.1)) (others_apart (b.from + b.size) bs apart.2))
    | inr past ↦ by (is_share_of consumer b) (owner_gone hash (b.from + b.size) bs apart.2 (sym (owner_past hash b bs past) ∙ mine)) past
  ]
    where
      same : (c : ℕ) → Some c ≡ Some consumer → c ≡ consumer
      same c e = cc

      it_is : (c : ℕ) → c ≡ consumer → (c == consumer) ≡ true
      it_is c e = grind (arith, nat_tests)

      by : (t : Bool) → owner_among (others bs) hash ≡ None → has_hash hash b ≡ false → owner_among (cond (not t) (b ∷ others bs) (others bs)) hash ≡ None
      by true rest past = rest
      by false rest past = owner_past hash b (others bs) past ∙ rest

  pub owner_left : (hash : ℕ) (bs : List Block) → owner_among bs hash ≢ Some consumer → owner_among (others bs) hash ≡ owner_among bs hash
  owner_left hash [] other = refl
  owner_left hash (b ∷ bs) other = elim (cases_Bool (has_hash hash b)) [
    | inl here ↦
        subst (λ t. owner_among (cond (not t) (b ∷ others bs) (others bs)) hash ≡ owner_among (b ∷ bs) hash) (sym (it_is_not b.consumer (λ is. other (owner_here hash b bs here ∙ ap Some is))))
        (owner_here hash b (others bs) here ∙ sym (owner_here hash b bs here))
    | inr past ↦ by (is_share_of consumer b) (owner_left hash bs (λ mine. other (owner_past hash b bs past ∙ mine))) past
  ]
    where
      it_is_not : (c : ℕ) → (c ≡ consumer → ⊥) → (c == consumer) ≡ false
      it_is_not c e = grind (arith, nat_tests)

      by : (t : Bool) → owner_among (others bs) hash ≡ owner_among bs hash → has_hash hash b ≡ false → owner_among (cond (not t) (b ∷ others bs) (others bs)) hash ≡ owner_among (b ∷ bs) hash
      by true rest past = rest ∙ sym (owner_past hash b bs past)
      by false rest past = owner_alike hash b b (others bs) bs refl refl rest

  -- those that had a share have one, but for the consumer
  pub any_of_others : (number : ℕ) (bs : List Block) → list_any (is_share_of number) (others bs) ≡ (list_any (is_share_of number) bs && not (number == consumer))
  any_of_others number [] = refl
  any_of_others number (b ∷ bs) = by (is_share_of consumer b) refl (any_of_others number bs)
    where
      goes : (c : ℕ) (rest more : Bool) → (c == consumer) ≡ true → more ≡ (rest && not (number == consumer)) → more ≡ (((c == number) || rest) && not (number == consumer))
      goes c rest more is e = grind (arith, nat_tests)

      stays : (c : ℕ) (rest more : Bool) → (c == consumer) ≡ false → more ≡ (rest && not (number == consumer)) → ((c == number) || more) ≡ (((c == number) || rest) && not (number == consumer))
      stays c rest more other e = grind (arith, nat_tests)

      by : (t : Bool) → is_share_of consumer b ≡ t → list_any (is_share_of number) (others bs) ≡ (list_any (is_share_of number) bs && not (number == consumer))
          → list_any (is_share_of number) (cond (not t) (b ∷ others bs) (others bs)) ≡ ((is_share_of number b || list_any (is_share_of number) bs) && not (number == consumer))
      by true is rest = goes b.consumer (list_any (is_share_of number) bs) (list_any (is_share_of number) (others bs)) is rest
      by false other rest = stays b.consumer (list_any (is_share_of number) bs) (list_any (is_share_of number) (others bs)) other rest
