-- Lists of what is kept, as the machine's lists of what that stands for.
use Rattle.std.proofs.Common.{◌≡◌, ℕ, ◌+◌, List, [], ◌∷◌, map, Some, None, Bool, cond, get_or, set, refl, ap, ap₂, ◌∙◌, sym}
use Rattle.std.specs.List.{position, position_or_len, find}
use Rattle.std.specs.Prelude.{nat_lt, not}
use Rattle.std.proofs.lemmas.List.{length-map, map-set}
use Rattle.std.proofs.Math.ListN.{get_or-map}
use Rattle.delivery_machine.specs.Words.{changed}
use Rattle.delivery_machine.proofs.Places.{changed_there, find-position}

module _ {A B : Type 0} (f : A → B) (p : A → Bool) (q : B → Bool) (alike : (x : A) → q (f x) ≡ p x) where
  first_mapped : (xs : List A) → position_or_len q (map f xs) ≡ position_or_len p xs
  first_mapped [] = refl
  first_mapped (x ∷ xs) = ap₂ (λ b n. cond (not b) (1 + n) 0) (alike x) (first_mapped xs)

  -- what is looked for among what elements stand for stands where the element stands
  pub position_mapped : (xs : List A) → position q (map f xs) ≡ position p xs
  position_mapped xs = ap₂ (λ i n. cond (nat_lt i n) (Some i) None) (first_mapped xs) (length-map xs f)

  -- what is written at its place
  pub changed_mapped : (g : B → B) (xs : List A) (i : ℕ) (d y : A) → Some i ≡ position p xs → f y ≡ g (f (get_or xs i d)) → map f (set xs i y) ≡ changed q g (map f xs)
  changed_mapped g xs i d y there is =
      map-set f xs i y
      ∙ changed_there q g (map f xs) i (f d) (f y) (there ∙ sym (position_mapped xs)) (is ∙ ap g (sym (get_or-map f xs i d)))

  -- what is found
  pub found_mapped : (xs : List A) (i : ℕ) (d : A) → Some i ≡ position p xs → find q (map f xs) ≡ Some (f (get_or xs i d))
  found_mapped xs i d there = find-position q (map f xs) i (f d) (position_mapped xs ∙ sym there) ∙ ap (λ (y : B). Some y) (get_or-map f xs i d)
