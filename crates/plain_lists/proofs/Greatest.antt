-- The greatest sequence number under a name, one more at a time.
use Rattle.std.proofs.Common.{◌≡◌, ℕ, ◌+◌, ◌<◌, List, [], ◌∷◌, ◌++◌, take, get_or, map, Some, ap, ◌∙◌, sym, arith, length}
use Rattle.std.specs.Prelude.{ℤ, if◌then◌else◌}
use Rattle.std.specs.List.{filter}
use Rattle.std.specs.Int.{int_max}
use Rattle.std.specs.Str.{bytes_eq}
use Rattle.std.proofs.lemmas.List.{take_more, map-append, append_assoc}
use Rattle.std.proofs.lemmas.Bool.Decides.{nat_tests}
use Rattle.delivery_machine.specs.Words.{Signed, greatest, greatest_under, is_by}
use Rattle.plain_lists.specs.Raised.{raised}
use Rattle.delivery_machine.proofs.Best.{best_by-push, int_max_assoc}

abbrev numbers_of : List Signed → List ℕ → List ℤ
numbers_of numbers name = map (λ n. n.sequence) (filter (is_by name) numbers)

greatest_push : (ns : List ℤ) (n : ℤ) → greatest (ns ++ n ∷ []) ≡ Some (raised (greatest ns) n)
greatest_push ns n = best_by-push int_max int_max_assoc ns n

numbers_of_push : (name : List ℕ) (numbers : List Signed) (n : Signed) → numbers_of (numbers ++ n ∷ []) name ≡ (if bytes_eq n.name name then numbers_of numbers name ++ n.sequence ∷ [] else numbers_of numbers name)
numbers_of_push name [] n = grind (arith, nat_tests)
numbers_of_push name (a ∷ numbers) n = grind (arith, nat_tests, numbers_of_push name numbers n)

one_more : (name : List ℕ) (numbers : List Signed) (n : Signed) → greatest_under name (numbers ++ n ∷ []) ≡ (if bytes_eq n.name name then Some (raised (greatest_under name numbers) n.sequence) else greatest_under name numbers)
one_more name numbers n = grind (arith, nat_tests, numbers_of_push name numbers n, greatest_push (numbers_of numbers name) n.sequence)

-- behind other numbers
pub greatest_more : {A : Type 0} (f : A → Signed) (name : List ℕ) (before : List Signed) (xs : List A) (i : ℕ) (x : A) → i < length xs
    → greatest_under name (before ++ map f (take (i + 1) xs))
    ≡ (if bytes_eq (f (get_or xs i x)).name name then Some (raised (greatest_under name (before ++ map f (take i xs))) (f (get_or xs i x)).sequence) else greatest_under name (before ++ map f (take i xs)))
greatest_more f name before xs i x low =
    ap (λ ys. greatest_under name (before ++ map f ys)) (take_more xs i x low)
    ∙ ap (λ ns. greatest_under name (before ++ ns)) (map-append f (take i xs) (get_or xs i x ∷ []))
    ∙ ap (greatest_under name) (sym (append_assoc before (map f (take i xs)) (f (get_or xs i x) ∷ [])))
    ∙ one_more name (before ++ map f (take i xs)) (f (get_or xs i x))
