-- What is found in a list stays, or is found anew, once the list is changed.
use Rattle.std.proofs.Common.{◌≡◌, ℕ, List, [], ◌∷◌, ◌++◌, map, Some, None, Bool, true, false, cond, zero, suc, refl, ap, ◌∙◌, sym, ◌⊎◌, inl, inr}
use Rattle.std.specs.List.{find, insert}
use Rattle.std.specs.Option.{option_map_or}
use Rattle.delivery_machine.specs.Words.{changed, removed}

module _ {A : Type 0} (p : A → Bool) where
  -- no other is found where one comes that does not pass
  pub find_inserted : (xs : List A) (i : ℕ) (y : A) → p y ≡ false → find p (insert xs i y) ≡ find p xs
  find_inserted xs zero y f = ap (λ b. cond b (Some y) (find p xs)) f
  find_inserted [] (suc i) y f = ap (λ b. cond b (Some y) None) f
  find_inserted (x ∷ xs) (suc i) y f = ap (λ o. cond (p x) (Some x) o) (find_inserted xs i y f)

  -- nor where one goes that does not pass
  pub find_removed : (q : A → Bool) → ((x : A) → q x ≡ true → p x ≡ false) → (xs : List A) → find p (removed q xs) ≡ find p xs
  find_removed q apart [] = refl
  find_removed q apart (x ∷ xs) = by (q x) refl (find_removed q apart xs)
    where
      by : (b : Bool) → q x ≡ b → find p (removed q xs) ≡ find p xs → find p (cond b xs (x ∷ removed q xs)) ≡ find p (x ∷ xs)
      by true t rest = sym (ap (λ b. cond b (Some x) (find p xs)) (apart x t))
      by false f rest = ap (λ o. cond (p x) (Some x) o) rest

  -- what holds of the one that is found holds after a change that keeps it
  pub still_changed : (h : A → Bool) (q : A → Bool) (f : A → A) → ((x : A) → p (f x) ≡ p x) → ((x : A) → q x ≡ true → p x ≡ true → h x ≡ true → h (f x) ≡ true)
      → (xs : List A) → option_map_or h (find p xs) false ≡ true → option_map_or h (find p (changed q f xs)) false ≡ true
  still_changed h q f same keeps [] t = t
  still_changed h q f same keeps (x ∷ xs) t = by (q x) refl (p x) refl t (still_changed h q f same keeps xs)
    where
      by : (b : Bool) → q x ≡ b → (c : Bool) → p x ≡ c → option_map_or h (cond c (Some x) (find p xs)) false ≡ true
          → (option_map_or h (find p xs) false ≡ true → option_map_or h (find p (changed q f xs)) false ≡ true)
          → option_map_or h (find p (cond b (f x ∷ xs) (x ∷ changed q f xs))) false ≡ true
      by true qt true pt t rest = ap (λ b. option_map_or h (cond b (Some (f x)) (find p xs)) false) (same x ∙ pt) ∙ keeps x qt pt t
      by true qt false pf t rest = ap (λ b. option_map_or h (cond b (Some (f x)) (find p xs)) false) (same x ∙ pf) ∙ t
      by false qf true pt t rest = ap (λ b. option_map_or h (cond b (Some x) (find p (changed q f xs))) false) pt ∙ t
      by false qf false pf t rest = ap (λ b. option_map_or h (cond b (Some x) (find p (changed q f xs))) false) pf ∙ rest t

  pub still_mapped : (h : A → Bool) (f : A → A) → ((x : A) → p (f x) ≡ p x) → ((x : A) → h (f x) ≡ h x) → (xs : List A) → option_map_or h (find p (map f xs)) false ≡ option_map_or h (find p xs) false
  still_mapped h f same keeps [] = refl
  still_mapped h f same keeps (x ∷ xs) = by (p x) refl (still_mapped h f same keeps xs)
    where
      by : (c : Bool) → p x ≡ c → option_map_or h (find p (map f xs)) false ≡ option_map_or h (find p xs) false → option_map_or h (find p (map f (x ∷ xs))) false ≡ option_map_or h (cond c (Some x) (find p xs)) false
      by true t rest = ap (λ b. option_map_or h (cond b (Some (f x)) (find p (map f xs))) false) (same x ∙ t) ∙ keeps x
      by false e rest = ap (λ b. option_map_or h (cond b (Some (f x)) (find p (map f xs))) false) (same x ∙ e) ∙ rest

  -- what is found once one is appended
  pub found_pushed : (xs : List A) (y z : A) → find p (xs ++ y ∷ []) ≡ Some z → (find p xs ≡ Some z) ⊎ ((z ≡ y) × (p y ≡ true))
  found_pushed [] y z h = by (p y) refl h
    where
      by : (b : Bool) → p y ≡ b → cond b (Some y) None ≡ Some z → (None ≡ Some z) ⊎ ((z ≡ y) × (p y ≡ true))
      by true t h = let is : z ≡ y = cc in inr (is, t)
      by false f h = inl h
  found_pushed (x ∷ xs) y z h = by (p x) h (found_pushed xs y z)
    where
      by : (b : Bool) → cond b (Some x) (find p (xs ++ y ∷ [])) ≡ Some z → (find p (xs ++ y ∷ []) ≡ Some z → (find p xs ≡ Some z) ⊎ ((z ≡ y) × (p y ≡ true))) → (cond b (Some x) (find p xs) ≡ Some z) ⊎ ((z ≡ y) × (p y ≡ true))
      by true h rest = inl h
      by false h rest = rest h

-- the first that passes is found changed
pub found_itself_changed : {A : Type 0} (p : A → Bool) (f : A → A) → ((x : A) → p (f x) ≡ p x) → (xs : List A) (x : A) → find p xs ≡ Some x → find p (changed p f xs) ≡ Some (f x)
found_itself_changed p f same [] x found = cc
found_itself_changed {A} p f same (y ∷ ys) x found = by (p y) refl found (found_itself_changed p f same ys x)
  where
    by : (b : Bool) → p y ≡ b → cond b (Some y) (find p ys) ≡ Some x → (find p ys ≡ Some x → find p (changed p f ys) ≡ Some (f x)) → find p (cond b (f y ∷ ys) (y ∷ changed p f ys)) ≡ Some (f x)
    by true t found rest = ap (λ b. cond b (Some (f y)) (find p ys)) (same y ∙ t) ∙ (let is : y ≡ x = cc in ap (λ z. Some (f z)) is)
    by false e found rest = ap (λ b. cond b (Some y) (find p (changed p f ys))) e ∙ rest found
