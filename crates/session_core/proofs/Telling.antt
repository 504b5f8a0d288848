-- What is told in one step after another.
use Rattle.std.proofs.Common.{◌≡◌, Option, Some, None, inl, inr, refl, sym, ap, ◌∙◌, option_map}
use Rattle.session_links.specs.Links.{Tells}

-- one thing is told after another
pub tells_then : {A : Type 0} (f g h : A → A) (a b c : Option A) → Tells f a b → Tells g b c → ((x : A) → h x ≡ g (f x)) → Tells h a c
tells_then f g h a b c (inl none) (inl none2) e = inl none2
tells_then f g h a b c (inr some) (inl none2) e = inl none2
tells_then f g h a b c (inl none) (inr some) e = inl (some ∙ ap (option_map g) none)
tells_then f g h a b c (inr first) (inr second) e = inr (second ∙ ap (option_map g) first ∙ by_value a)
  where
    by_value : (a : Option _) → option_map g (option_map f a) ≡ option_map h a
    by_value None = refl
    by_value (Some x) = ap Some (sym (e x))

-- nothing is told
pub tells_nothing : {A : Type 0} (f : A → A) (a : Option A) → ((x : A) → f x ≡ x) → Tells f a a
tells_nothing f a e = inr (by_value a)
  where
    by_value : (a : Option _) → a ≡ option_map f a
    by_value None = refl
    by_value (Some x) = ap Some (sym (e x))
