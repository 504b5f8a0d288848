-- Lists that are sorted, of any things: where no two tie, each is below those after it.
use Rattle.std.proofs.Common.{◌≡◌, suc, ◌+◌, ◌<◌, Bool, false, List, [], ◌∷◌, map, length, get_or, Ordering, Less, Equal, Greater, refl, ap, sym, subst, ◌∙◌, arith}
use Rattle.std.specs.Prelude.{IsPermutation, IsSorted}
use Rattle.std.specs.List.{AllByRecursion, IsDistinct}
use Rattle.std.specs.Ordering.{is_eq, is_lt, on, ordering_reverse}
use Rattle.std.specs.Cmp.{IsTotalOrder}
use Rattle.std.proofs.lemmas.List.{length-map, get_or-map}
use Rattle.std.proofs.lemmas.Map.Keys.{IsDistinct-IsPermutation}
use Rattle.row_reading.specs.KeyOrder.{InOrder}
use Rattle.row_reading.proofs.Orders.{IsOneWay, all_weaker, same_in_order}

-- an order of things that are of a form gives another
pub order_weaker : {A : Type 0} (R S : A → A → Type 0) (Fits : A → Type 0) → ((x y : A) → Fits x → Fits y → R x y → S x y) → (xs : List A) → AllByRecursion Fits xs → InOrder R xs → InOrder S xs
order_weaker R S Fits gives [] fit order = tt
order_weaker R S Fits gives (x ∷ xs) fit order = (below xs fit.1 order.0, order_weaker R S Fits gives xs fit.1 order.1)
  where
    below : (ys : List _) → AllByRecursion Fits ys → AllByRecursion (R x) ys → AllByRecursion (S x) ys
    below [] fits all = tt
    below (y ∷ ys) fits all = (gives x y fit.0 fits.0 all.0, below ys fits.1 all.1)

pub sorted_through : {A B : Type 0} (cmp : B → B → Ordering) (f : A → B) (xs : List A) → IsSorted (on f cmp) xs → IsSorted cmp (map f xs)
sorted_through cmp f [] sorted k d low below = absurd (omega (arith, below))
sorted_through cmp f (x ∷ xs) sorted k d low below =
    let within : k + 1 < length (x ∷ xs) = rw length-map at below in
    rw (get_or-map f (x ∷ xs) (k + 1) x d within, get_or-map f (x ∷ xs) k x d (omega arith)) (sorted k x low within)

module _ {A : Type 0} (cmp : A → A → Ordering) (total : IsTotalOrder cmp) where
  abbrev Below : A → A → Type 0
  Below x y = cmp x y ≡ Less

  abbrev tied : A → A → Bool
  tied x y = is_eq (cmp x y)

  one_way : IsOneWay Below
  one_way x y below above = let turned : cmp x y ≡ ordering_reverse Less = total.antisymm x y ∙ ap ordering_reverse above in absurd (cc)

  flips : (x y : A) → tied x y ≡ tied y x
  flips x y = ap is_eq (total.antisymm x y) ∙ turned (cmp y x)
    where
      turned : (o : Ordering) → is_eq (ordering_reverse o) ≡ is_eq o
      turned Less = refl
      turned Equal = refl
      turned Greater = refl

  none_ties : (xs : List A) → InOrder Below xs → IsDistinct tied xs
  unfolding IsDistinct
  none_ties [] order = tt
  none_ties (x ∷ xs) order = (all_weaker (Below x) (λ y. tied x y ≡ false) (λ y less. ap is_eq less) xs order.0, none_ties xs order.1)

  above_none : (x y : A) → is_lt (cmp y x) ≡ false → tied x y ≡ false → Below x y
  above_none x y not_below apart = by (cmp x y) refl (sym (ap is_lt (total.antisymm y x)) ∙ not_below) apart
    where
      by : (o : Ordering) → cmp x y ≡ o → is_lt (ordering_reverse (cmp x y)) ≡ false → is_eq (cmp x y) ≡ false → Below x y
      by Less is no_less no_tie = is
      by Equal is no_less no_tie = let tie : is_eq Equal ≡ false = ap is_eq (sym is) ∙ no_tie in absurd (cc)
      by Greater is no_less no_tie = let less : is_lt (ordering_reverse Greater) ≡ false = ap (λ o. is_lt (ordering_reverse o)) (sym is) ∙ no_less in absurd (cc)

  in_order : (xs : List A) → IsSorted cmp xs → IsDistinct tied xs → InOrder Below xs
  unfolding IsDistinct
  in_order [] sorted apart = tt
  in_order (x ∷ []) sorted apart = (tt, tt)
  in_order (x ∷ y ∷ xs) sorted apart =
      let rest : InOrder Below (y ∷ xs) = in_order (y ∷ xs) later apart.1 in
      let first : Below x y = above_none x y (sorted 0 x (omega arith) (omega arith)) apart.0.0 in
      ((first, all_weaker (Below y) (Below x) (λ z less. total.trans x y z first less) xs rest.0), rest)
    where
      later : IsSorted cmp (y ∷ xs)
      later k d low below =
          let next : suc k + 1 ≡ suc (k + 1) = omega arith in
          subst (λ n. is_lt (cmp (get_or (x ∷ y ∷ xs) n d) (get_or (y ∷ xs) k d)) ≡ false) next (sorted (suc k) d (omega arith) (omega (arith, below)))

  -- what is in order is what the same things are that are sorted
  pub same_sorted : (xs ys : List A) → InOrder (λ x y. cmp x y ≡ Less) xs → IsSorted cmp ys → IsPermutation xs ys → xs ≡ ys
  same_sorted xs ys order sorted same =
      same_in_order Below one_way xs ys order (in_order ys sorted (IsDistinct-IsPermutation tied flips xs ys same (none_ties xs order))) same
