-- The least number whose name is free, as the names that are in use are taken out one by one.
use Rattle.std.proofs.Common.{◌≡◌, ℕ, ◌+◌, ◌<◌, ◌^◌, List, [], ◌∷◌, Bool, true, false, Some, length, get_or, arith, sym, ap, ◌∙◌, zero, suc, subst, inl, inr}
use Rattle.std.specs.Prelude.{codes, ◌||◌}
use Rattle.std.specs.List.{list_any, position, remove}
use Rattle.std.specs.Str.{bytes_eq}
use Rattle.std.specs.Fmt.{decimal}
use Rattle.std.proofs.lemmas.Bool.{false_from_ne_true, cases_lt}
use Rattle.std.proofs.lemmas.Fmt.{decimal_injective}
use Rattle.std.proofs.lemmas.List.{append_cancel_left}
use Rattle.std.proofs.lemmas.List.Edits.{length-remove}
use Rattle.std.proofs.lemmas.List.Folds.{list_any_at}
use Rattle.std.proofs.lemmas.List.Quantifiers.{position-Some}
use Rattle.std.proofs.lemmas.Slice.Eq.{bytes_eq-Decides}
use Rattle.delivery_machine.specs.Producing.{auto_name}
use Rattle.plain_lists.specs.Auto.{is_among, IsLeastFreeIn}

-- `number` names were taken out of those at first, each of them made of a number below it
pub record Searched (first left : List (List ℕ)) (number : ℕ) : Type 0 where
  pub taken : number + length left ≡ length first
  pub used : (k : ℕ) → k < number → is_among first (auto_name k) ≡ true
  pub same : (q : List ℕ) → ((k : ℕ) → k < number → bytes_eq (auto_name k) q ≡ false) → is_among first q ≡ is_among left q

-- names of different numbers differ
pub auto_names_differ : (k n : ℕ) → k < n → n < 2 ^ 64 → bytes_eq (auto_name k) (auto_name n) ≡ false
auto_names_differ k n below small =
    false_from_ne_true _ (λ same.
    let texts = (bytes_eq-Decides (auto_name k) (auto_name n)).0 same in
    let numbers = decimal_injective k n (omega arith) small (append_cancel_left (codes "auto-") (decimal k) (decimal n) texts) in
    absurd (omega (arith, numbers)))

-- a name that is taken out was the one, or it makes no difference
pub list_any-remove : {A : Type 0} (p : A → Bool) (xs : List A) (i : ℕ) (d : A) → i < length xs → p (get_or xs i d) ≡ false → list_any p xs ≡ list_any p (remove xs i)
list_any-remove p [] i d below passes = absurd (omega arith)
list_any-remove p (x ∷ xs) zero d below fails = ap (λ b. b || list_any p xs) fails
list_any-remove p (x ∷ xs) (suc i) d below fails = ap (λ b. p x || b) (list_any-remove p xs i d (omega arith) fails)

pub Searched-more : (first left : List (List ℕ)) (n i : ℕ) → length first < 2 ^ 64 → Searched first left n → Some i ≡ position (λ other. bytes_eq other (auto_name n)) left → Searched first (remove left i) (n + 1)
Searched-more first left n i small before there =
    let at = position-Some (λ other. bytes_eq other (auto_name n)) left i [] (sym there) in
    let one_less = length-remove left i at.0 in
    let within : n < 2 ^ 64 = omega (arith, before.taken, small, at.0) in
    let is : get_or left i [] ≡ auto_name n = (bytes_eq-Decides (get_or left i []) (auto_name n)).0 at.1 in
    let now_used : is_among first (auto_name n) ≡ true =
    before.same (auto_name n) (λ k below. auto_names_differ k n below within)
    ∙ list_any_at (λ other. bytes_eq other (auto_name n)) left i [] at.0 at.1 in
    record {
      taken = omega (arith, before.taken, one_less);
      used = λ k below. elim (cases_lt k n) [
        | inl lt ↦ before.used k lt
        | inr ge ↦
            let e : n ≡ k = omega arith in
            subst (λ (m : ℕ). is_among first (auto_name m) ≡ true) e now_used
      ];
      same = λ q differs.
          before.same q (λ k below. differs k (omega arith))
          ∙ list_any-remove (λ other. bytes_eq other q) left i [] at.0 (ap (λ (x : List ℕ). bytes_eq x q) is ∙ differs n (omega arith));
    }

-- where none of the names that are left is the next one, that one is the least
pub Searched-end : (first left : List (List ℕ)) (n : ℕ) → length first < 2 ^ 64 → Searched first left n → is_among left (auto_name n) ≡ false → IsLeastFreeIn first n
Searched-end first left n small before free =
    (before.same (auto_name n) (λ k below. auto_names_differ k n below (omega (arith, before.taken, small))) ∙ free, before.used)
