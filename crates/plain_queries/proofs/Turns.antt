-- The member of the best level, as the members are gone through.
use Rattle.std.proofs.Common.{◌≡◌, ℕ, ◌+◌, ◌<◌, ◌≤◌, ◌∙◌, List, [], ◌∷◌, ◌++◌, Bool, true, false, cond, Option, Some, None, take, get_or, length, refl, sym, ap, subst, arith}
use Rattle.std.specs.Prelude.{if◌then◌else◌}
use Rattle.std.specs.List.{filter, All}
use Rattle.std.proofs.lemmas.List.Elements.{All-push, Contains-push, Contains-append_left, filter_more}
use Rattle.std.proofs.lemmas.Bool.Decides.{nat_tests}
use Rattle.delivery_machine.specs.State.{Member}
use Rattle.plain_queries.specs.Turn.{IsBestLevel, goes_first, in_turn}
use Rattle.std.proofs.lemmas.List.{append-nil}

first_is_better : (last : ℕ) (m other : Member) → goes_first last m other ≡ true → m.level ≤ other.level
first_is_better last m other first = grind (arith, nat_tests)

other_is_better : (last : ℕ) (m other : Member) → goes_first last m other ≡ false → other.level ≤ m.level
other_is_better last m other first = grind (arith, nat_tests)

no_better : (a b : Member) (ms : List Member) → a.level ≤ b.level → All (λ other. b.level ≤ other.level) ms → All (λ other. a.level ≤ other.level) ms
no_better a b ms le all k d below = omega (arith, le, all k d below)

with_next : (last : ℕ) (ms : List Member) (best : Option Member) (x : Member) → IsBestLevel ms best → IsBestLevel (ms ++ x ∷ []) (Some (in_turn last best x))
with_next last ms None x none =
    (Contains-push ms x, All-push (λ other. x.level ≤ other.level) ms x (λ k d below. absurd (omega (arith, below, ap length none))) (omega arith))
with_next last ms (Some b) x is = by_case (goes_first last x b) refl
  where
    by_case : (t : Bool) → goes_first last x b ≡ t → IsBestLevel (ms ++ x ∷ []) (Some (if t then x else b))
    by_case true first =
        (Contains-push ms x, All-push (λ other. x.level ≤ other.level) ms x (no_better x b ms (first_is_better last x b first) is.1) (omega arith))
    by_case false first =
        (Contains-append_left ms (x ∷ []) b is.0, All-push (λ other. b.level ≤ other.level) ms x is.1 (other_is_better last x b first))

-- one turn of the loop, whatever the test is
pub best_level_step : (p : Member → Bool) (last : ℕ) (ms : List Member) (i : ℕ) (x : Member) (t : Bool) (best new : Option Member) → i < length ms → x ≡ get_or ms i x → t ≡ p x → IsBestLevel (filter p (take i ms)) best → new ≡ (if t then Some (in_turn last best x) else best) → IsBestLevel (filter p (take (i + 1) ms)) new
best_level_step p last ms i x t best new lt there test before now =
    subst (λ (ys : List Member). IsBestLevel ys new) (sym (filter_more p ms i x lt ∙ ap (λ (y : Member). filter p (take i ms) ++ cond (p y) (y ∷ []) []) (sym there)))
    (subst (λ (o : Option Member). IsBestLevel (filter p (take i ms) ++ cond (p x) (x ∷ []) []) o) (sym (now ∙ ap (λ b. if b then Some (in_turn last best x) else best) test))
    (either_way (p x)))
  where
    either_way : (b : Bool) → IsBestLevel (filter p (take i ms) ++ cond b (x ∷ []) []) (if b then Some (in_turn last best x) else best)
    either_way true = with_next last (filter p (take i ms)) best x before
    either_way false = subst (λ (ys : List Member). IsBestLevel ys best) (sym (append-nil (filter p (take i ms)))) before
