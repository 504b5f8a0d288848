-- A text of one dot or two.
use Rattle.std.proofs.Common.{◌≡◌, ℕ, List, [], ◌∷◌, Bool, true, false, length, codes, refl, ◌∙◌, ◌≤◌, ap, arith}
use Rattle.std.specs.Prelude.{◌==◌, ◌&&◌, ◌||◌}
use Rattle.std.specs.List.{list_all}
use Rattle.std.specs.Str.{bytes_eq}
use Rattle.std.proofs.lemmas.Bool.Decides.{nat_tests}
use Rattle.endpoint_core.specs.OneReading.{is_dot}

one : (b : Bool) → (b && true) ≡ ((b && true) || (b && false))
one true = refl
one false = refl

two : (b c : Bool) → (b && (c && true)) ≡ ((b && false) || (b && (c && true)))
two true c = refl
two false c = refl

more : (b c : Bool) → false ≡ ((b && false) || (b && (c && false)))
more true true = refl
more true false = refl
more false c = refl

long : (n : ℕ) → 3 ≤ n → (n == 1 || n == 2) ≡ false
long n least = grind (arith, nat_tests)

pub dots_are : (text : List ℕ) → ((length text == 1 || length text == 2) && list_all is_dot text) ≡ (bytes_eq text (codes ".") || bytes_eq text (codes ".."))
dots_are [] = refl
dots_are (a ∷ []) = one (a == 46)
dots_are (a ∷ b ∷ []) = two (a == 46) (b == 46)
dots_are (a ∷ b ∷ c ∷ text) =
    ap (λ (short : Bool). short && list_all is_dot (a ∷ b ∷ c ∷ text)) (long (length (a ∷ b ∷ c ∷ text)) (omega arith)) ∙ more (a == 46) (b == 46)
