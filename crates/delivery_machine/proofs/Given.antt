-- Numbers are given in turn, and names to one producer each.
use Rattle.std.proofs.Common.{◌≡◌, ℕ, ◌+◌, ◌<◌, List, [], ◌∷◌, ◌++◌, map, Bool, true, false, cond, refl, ap, ◌∙◌, sym, subst, arith}
use Rattle.std.specs.Prelude.{◌||◌}
use Rattle.std.specs.List.{AllByRecursion, list_any, IsDistinct, All}
use Rattle.std.specs.List.Sorted.{IsStrictlyIncreasing}
use Rattle.std.specs.Ordering.{nat_cmp}
use Rattle.std.specs.declared.cmp.Ordering.TheVariants.{Less}
use Rattle.std.specs.Str.{bytes_eq}
use Rattle.std.specs.Cmp.Lexicographic.{nat_list_eq_equiv}
use Rattle.std.proofs.lemmas.Bool.Decides.{nat_tests}
use Rattle.std.proofs.lemmas.List.{map-append}
use Rattle.std.proofs.lemmas.List.Elements.{All-nil, All-weaker, All-push, recursion_from_All, All-from_recursion}
use Rattle.std.proofs.lemmas.Map.Keys.{IsDistinct-push, sorted_tail, sorted_from_strictly_increasing, IsStrictlyIncreasing-from_sorted}
use Rattle.delivery_machine.specs.State.{Producer}
use Rattle.delivery_machine.specs.Words.{removed}
use Rattle.delivery_machine.specs.WellFormed.{AreGiven}
use Rattle.delivery_machine.proofs.Rising.{sorted_push}
use Rattle.delivery_machine.proofs.Keyed.{each_key_removed, sorted_removed}

-- ---- numbers

module _ {A : Type 0} (number : A → ℕ) where
  pub increasing_pushed : (xs : List A) (x : A) → AllByRecursion (λ y. number y < number x) xs → IsStrictlyIncreasing (map number xs) → IsStrictlyIncreasing (map number (xs ++ x ∷ []))
  increasing_pushed xs x below rising = IsStrictlyIncreasing-from_sorted (map number (xs ++ x ∷ [])) (sorted_push nat_cmp number xs x (sorted_from_strictly_increasing (map number xs) rising) (less xs below))
    where
      below_is : (a b : ℕ) → a < b → nat_cmp a b ≡ Less
      below_is a b low = grind (arith, nat_tests)

      less : (ys : List A) → AllByRecursion (λ y. number y < number x) ys → AllByRecursion (λ y. nat_cmp (number y) (number x) ≡ Less) ys
      less [] low = tt
      less (y ∷ ys) low = (below_is (number y) (number x) low.0, less ys low.1)

  pub increasing_removed : (q : A → Bool) (xs : List A) → IsStrictlyIncreasing (map number xs) → IsStrictlyIncreasing (map number (removed q xs))
  increasing_removed q xs rising = IsStrictlyIncreasing-from_sorted (map number (removed q xs)) (sorted_removed number nat_cmp q xs (sorted_from_strictly_increasing (map number xs) rising))

  pub increasing_later : (x : A) (xs : List A) → IsStrictlyIncreasing (map number (x ∷ xs)) → IsStrictlyIncreasing (map number xs)
  increasing_later x xs rising = IsStrictlyIncreasing-from_sorted (map number xs) (sorted_tail nat_cmp (number x) (map number xs) (sorted_from_strictly_increasing (map number (x ∷ xs)) rising))

  -- the next number is given
  pub given_pushed : (next : ℕ) (xs : List A) (x : A) → number x ≡ next → AreGiven next (map number xs) → AreGiven (next + 1) (map number (xs ++ x ∷ []))
  given_pushed next xs x is given = record {
    rising = increasing_pushed xs x (subst (λ (n : ℕ). AllByRecursion (λ y. number y < n) xs) (sym is) (each xs (recursion_from_All (λ n. n < next) (map number xs) given.below))) given.rising;
    below = subst (All (λ n. n < next + 1)) (sym (map-append number xs (x ∷ [])))
        (All-push (λ n. n < next + 1) (map number xs) (number x) (All-weaker (λ n. n < next) (λ n. n < next + 1) (λ n low. omega arith) (map number xs) given.below) (omega arith));
  }
    where
      each : (ys : List A) → AllByRecursion (λ n. n < next) (map number ys) → AllByRecursion (λ y. number y < next) ys
      each [] all = tt
      each (y ∷ ys) all = (all.0, each ys all.1)

  pub given_removed : (next : ℕ) (q : A → Bool) (xs : List A) → AreGiven next (map number xs) → AreGiven next (map number (removed q xs))
  given_removed next q xs given = record {
    rising = increasing_removed q xs given.rising;
    below = All-from_recursion (λ n. n < next) (map number (removed q xs)) (each_key_removed number (λ n. n < next) q xs (recursion_from_All (λ n. n < next) (map number xs) given.below));
  }

pub none_given : (next : ℕ) → AreGiven next []
none_given next = record { rising = λ k low. absurd (omega arith); below = All-nil (λ n. n < next) }

-- ---- names of producers

abbrev pub names : List Producer → List (List ℕ)
names producers = map (λ p. p.name) producers

pub names_pushed : (producers : List Producer) (p : Producer) → list_any (λ q. bytes_eq q.name p.name) producers ≡ false → IsDistinct bytes_eq (names producers) → IsDistinct bytes_eq (names (producers ++ p ∷ []))
names_pushed producers p new distinct =
    subst (IsDistinct bytes_eq) (sym (map-append (λ (q : Producer). q.name) producers (p ∷ [])))
    (IsDistinct-push nat_list_eq_equiv (names producers) p.name distinct (unlike producers ∙ new))
  where
    unlike : (qs : List Producer) → list_any (bytes_eq p.name) (names qs) ≡ list_any (λ q. bytes_eq q.name p.name) qs
    unlike [] = refl
    unlike (q ∷ qs) = ap (λ b. b || list_any (bytes_eq p.name) (names qs)) (nat_list_eq_equiv.symm p.name q.name) ∙ ap (λ b. bytes_eq q.name p.name || b) (unlike qs)

pub names_removed : (q : Producer → Bool) (producers : List Producer) → IsDistinct bytes_eq (names producers) → IsDistinct bytes_eq (names (removed q producers))
unfolding IsDistinct
names_removed q [] distinct = tt
names_removed q (p ∷ ps) distinct = by (q p) (names_removed q ps distinct.1)
  where
    by : (b : Bool) → IsDistinct bytes_eq (names (removed q ps)) → IsDistinct bytes_eq (names (cond b ps (p ∷ removed q ps)))
    by true rest = distinct.1
    by false rest = (each_key_removed (λ (z : Producer). z.name) (λ name. bytes_eq p.name name ≡ false) q ps distinct.0, rest)
