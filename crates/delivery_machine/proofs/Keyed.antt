-- Lists in the order of their elements' keys, after a change of them.
use Rattle.std.proofs.Common.{◌≡◌, ℕ, List, [], ◌∷◌, map, Bool, true, false, cond, zero, suc, ◌+◌, refl, ap, ◌∙◌, subst, arith, true≢false}
use Rattle.std.specs.Prelude.{not}
use Rattle.std.specs.List.{AllByRecursion, insert, position_or_len}
use Rattle.std.specs.List.Sorted.{IsStrictlySortedBy}
use Rattle.std.specs.Cmp.{IsTotalOrder}
use Rattle.std.specs.Ordering.{is_lt, is_eq, ordering_reverse}
use Rattle.std.specs.declared.cmp.Ordering.{Ordering}
use Rattle.std.specs.declared.cmp.Ordering.TheVariants.{Less, Equal, Greater}
use Rattle.delivery_machine.specs.Words.{changed, removed}

module _ {A K : Type 0} (key : A → K) where
  -- where a change keeps the key
  pub keys_changed : (q : A → Bool) (f : A → A) → ((x : A) → key (f x) ≡ key x) → (xs : List A) → map key (changed q f xs) ≡ map key xs
  keys_changed q f same [] = refl
  keys_changed q f same (x ∷ xs) = by (q x) (keys_changed q f same xs)
    where
      by : (b : Bool) → map key (changed q f xs) ≡ map key xs → map key (cond b (f x ∷ xs) (x ∷ changed q f xs)) ≡ map key (x ∷ xs)
      by true rest = ap (λ k. k ∷ map key xs) (same x)
      by false rest = ap (λ ks. key x ∷ ks) rest

  pub keys_mapped : {B : Type 0} {other : B → K} (f : B → A) → ((x : B) → key (f x) ≡ other x) → (xs : List B) → map key (map f xs) ≡ map other xs
  keys_mapped f same [] = refl
  keys_mapped {other = other} f same (x ∷ xs) = ap (λ k. k ∷ map key (map f xs)) (same x) ∙ ap (λ ks. other x ∷ ks) (keys_mapped f same xs)

  pub kept_if : (b : Bool) (x y : A) → key y ≡ key x → key (cond b y x) ≡ key x
  kept_if true x y same = same
  kept_if false x y same = refl

  -- what holds of each key
  pub each_key_removed : (P : K → Type 0) (q : A → Bool) (xs : List A) → AllByRecursion P (map key xs) → AllByRecursion P (map key (removed q xs))
  each_key_removed P q [] all = tt
  each_key_removed P q (x ∷ xs) all = by (q x) (each_key_removed P q xs all.1)
    where
      by : (b : Bool) → AllByRecursion P (map key (removed q xs)) → AllByRecursion P (map key (cond b xs (x ∷ removed q xs)))
      by true rest = all.1
      by false rest = (all.0, rest)

  each_key_inserted : (P : K → Type 0) (xs : List A) (i : ℕ) (y : A) → P (key y) → AllByRecursion P (map key xs) → AllByRecursion P (map key (insert xs i y))
  each_key_inserted P xs zero y one all = (one, all)
  each_key_inserted P [] (suc i) y one all = (one, tt)
  each_key_inserted P (x ∷ xs) (suc i) y one all = (all.0, each_key_inserted P xs i y one all.1)

  module _ (c : K → K → Ordering) where
    pub sorted_removed : (q : A → Bool) (xs : List A) → IsStrictlySortedBy c (map key xs) → IsStrictlySortedBy c (map key (removed q xs))
    unfolding IsStrictlySortedBy
    sorted_removed q [] rising = tt
    sorted_removed q (x ∷ xs) rising = by (q x) (sorted_removed q xs rising.1)
      where
        by : (b : Bool) → IsStrictlySortedBy c (map key (removed q xs)) → IsStrictlySortedBy c (map key (cond b xs (x ∷ removed q xs)))
        by true rest = rising.1
        by false rest = (each_key_removed (λ k. c (key x) k ≡ Less) q xs rising.0, rest)

    -- where one of a further key goes before the first of a greater one
    pub sorted_inserted : IsTotalOrder c → (y : A) (xs : List A) → AllByRecursion (λ x. is_eq (c (key y) (key x)) ≡ false) xs → IsStrictlySortedBy c (map key xs)
        → IsStrictlySortedBy c (map key (insert xs (position_or_len (λ x. is_lt (c (key y) (key x))) xs) y))
    unfolding IsStrictlySortedBy
    sorted_inserted total y [] other rising = (tt, tt)
    sorted_inserted total y (x ∷ xs) other rising = by (c (key y) (key x)) refl other.0 (sorted_inserted total y xs other.1 rising.1)
      where
        place : ℕ
        place = position_or_len (λ z. is_lt (c (key y) (key z))) xs

        above : (zs : List A) → c (key y) (key x) ≡ Less → AllByRecursion (λ k. c (key x) k ≡ Less) (map key zs) → AllByRecursion (λ k. c (key y) k ≡ Less) (map key zs)
        above [] less all = tt
        above (z ∷ zs) less all = (total.trans (key y) (key x) (key z) less all.0, above zs less all.1)

        one_on : suc place ≡ 1 + place
        one_on = omega arith

        by : (o : Ordering) → c (key y) (key x) ≡ o → is_eq o ≡ false → IsStrictlySortedBy c (map key (insert xs place y)) → IsStrictlySortedBy c (map key (insert (x ∷ xs) (cond (not (is_lt o)) (1 + place) 0) y))
        by Less is differ rest = ((is, above xs is rising.0), rising)
        by Equal is differ rest = absurd (true≢false differ)
        by Greater is differ rest =
            let less : c (key x) (key y) ≡ Less = total.antisymm (key x) (key y) ∙ ap ordering_reverse is in
            subst (λ (n : ℕ). IsStrictlySortedBy c (map key (insert (x ∷ xs) n y))) one_on (each_key_inserted (λ k. c (key x) k ≡ Less) xs place y less rising.0, rest)
