-- Lists of pairs of texts are the same where they compare so, each by each.
use Rattle.std.proofs.Common.{◌≡◌, ℕ, List, [], ◌∷◌, map, Bool, true, false, refl, ap, ◌∙◌}
use Rattle.std.specs.Prelude.{◌&&◌}
use Rattle.std.specs.Cmp.Lexicographic.{pointwise, pointwise_decides}
use Rattle.std.specs.Bool.{Decides}
use Rattle.std.specs.Str.{bytes_eq}
use Rattle.std.proofs.lemmas.Bool.Decides.{Decides-at}
use Rattle.std.proofs.lemmas.Slice.Eq.{bytes_eq-Decides}

-- elements compare by what is seen of them
seen : {A B : Type 0} (f : A → B) (same : B → B → Bool) (xs ys : List A) → pointwise (λ x y. same (f x) (f y)) xs ys ≡ pointwise same (map f xs) (map f ys)
seen f same [] [] = refl
seen f same [] (y ∷ ys) = refl
seen f same (x ∷ xs) [] = refl
seen f same (x ∷ xs) (y ∷ ys) = ap (λ b. same (f x) (f y) && b) (seen f same xs ys)

abbrev same_texts : List ℕ × List ℕ → List ℕ × List ℕ → Bool
same_texts p q = bytes_eq p.0 q.0 && bytes_eq p.1 q.1

both : (a b c d : List ℕ) (x y : Bool) → Decides x (a ≡ c) → Decides y (b ≡ d) → Decides (x && y) (◌≡◌ {A = List ℕ × List ℕ} (a, b) (c, d))
both a b c d true true first second = let e = first.0 refl in let f = second.0 refl in ((λ _. cc), λ _. refl)
both a b c d true false first second = ((λ e. cc), λ same. second.1 (ap (λ (p : List ℕ × List ℕ). p.1) same))
both a b c d false y first second = ((λ e. cc), λ same. first.1 (ap (λ (p : List ℕ × List ℕ). p.0) same))

texts_decide : (p q : List ℕ × List ℕ) → Decides (same_texts p q) (p ≡ q)
texts_decide p q = both p.0 p.1 q.0 q.1 _ _ (bytes_eq-Decides p.0 q.0) (bytes_eq-Decides p.1 q.1)

pub same_pairs : {A : Type 0} (f : A → List ℕ × List ℕ) (xs ys : List A) (r : Bool) → r ≡ pointwise (λ x y. same_texts (f x) (f y)) xs ys → Decides r (map f xs ≡ map f ys)
same_pairs f xs ys r is = Decides-at r _ (is ∙ seen f same_texts xs ys) (pointwise_decides texts_decide (map f xs) (map f ys))
