-- The members of a line of numbers, one number after another, and where the line is that of those who pass a test.
use Rattle.std.proofs.Common.{◌≡◌, ℕ, ◌+◌, ◌<◌, List, [], ◌∷◌, ◌++◌, Bool, true, false, cond, map, refl, ap, ap₂, sym, ◌∙◌, subst, take, get_or, length}
use Rattle.std.specs.Prelude.{◌==◌, ◌||◌, if◌then◌else◌}
use Rattle.std.specs.List.{AllByRecursion, filter}
use Rattle.std.specs.List.Sorted.{IsStrictlySortedBy, IsStrictlyIncreasing}
use Rattle.std.specs.Ordering.{nat_cmp}
use Rattle.std.specs.declared.cmp.Ordering.TheVariants.{Less}
use Rattle.std.proofs.lemmas.List.{take_more}
use Rattle.std.proofs.lemmas.List.Folds.{list_any-append}
use Rattle.std.proofs.lemmas.Map.Keys.{sorted_from_strictly_increasing}
use Rattle.delivery_machine.specs.State.{Member}
use Rattle.delivery_machine.specs.Words.{changed, emptied, is_member}
use Rattle.delivery_machine.proofs.Deciding.{apart_above, apart_below, itself, number_is}
use Rattle.delivery_machine.proofs.Keyed.{keys_mapped, kept_if}
use Rattle.topic_members.specs.Members.{NumbersRise}
use Rattle.topic_members.specs.Joined.{numbers_of, is_in, emptied_in}
use Rattle.topic_members.proofs.Halving.{is_less}

-- ---- one number more in the line

or_false : (b : Bool) → (b || false) ≡ b
or_false true = refl
or_false false = refl

or_true : (b : Bool) → (b || true) ≡ true
or_true true = refl
or_true false = refl

in_longer : (line : List ℕ) (n : ℕ) (m : Member) → is_in (line ++ n ∷ []) m ≡ (is_in line m || (m.number == n))
in_longer line n m = list_any-append (λ k. m.number == k) line (n ∷ []) ∙ ap (λ b. is_in line m || b) (or_false (m.number == n))

emptied_here : (line : List ℕ) (n : ℕ) (m : Member) → (m.number == n) ≡ true → emptied (emptied_in line m) ≡ emptied_in (line ++ n ∷ []) m
emptied_here line n m here =
    by (is_in line m) ∙ sym (ap (λ b. cond b (emptied m) m) (in_longer line n m ∙ ap (λ b. is_in line m || b) here ∙ or_true (is_in line m)))
  where
    by : (b : Bool) → emptied (cond b (emptied m) m) ≡ emptied m
    by true = refl
    by false = refl

emptied_as : (line : List ℕ) (n : ℕ) (m : Member) → (m.number == n) ≡ false → emptied_in (line ++ n ∷ []) m ≡ emptied_in line m
emptied_as line n m other = ap (λ b. cond b (emptied m) m) (in_longer line n m ∙ ap (λ b. is_in line m || b) other ∙ or_false (is_in line m))

number_kept : (line : List ℕ) (m : Member) → (emptied_in line m).number ≡ m.number
number_kept line m = kept_if (λ (x : Member). x.number) (is_in line m) m (emptied m) refl

-- those above the number stay as they are
above_stay : (line : List ℕ) (n : ℕ) (ms : List Member) → AllByRecursion (λ q. nat_cmp n q ≡ Less) (numbers_of ms) → map (emptied_in (line ++ n ∷ [])) ms ≡ map (emptied_in line) ms
above_stay line n [] above = refl
above_stay line n (m ∷ ms) above =
    ap₂ (λ x xs. x ∷ xs) (emptied_as line n m (apart_above m.number n (is_less n m.number above.0))) (above_stay line n ms above.1)

emptied_on : (line : List ℕ) (n : ℕ) (ms : List Member) → IsStrictlySortedBy nat_cmp (numbers_of ms) → changed (is_member n) emptied (map (emptied_in line) ms) ≡ map (emptied_in (line ++ n ∷ [])) ms
unfolding IsStrictlySortedBy
emptied_on line n [] rising = refl
emptied_on line n (m ∷ ms) rising = by (m.number == n) refl (emptied_on line n ms rising.1)
  where
    same : is_member n (emptied_in line m) ≡ (m.number == n)
    same = ap (λ k. k == n) (number_kept line m)

    by : (b : Bool) → (m.number == n) ≡ b → changed (is_member n) emptied (map (emptied_in line) ms) ≡ map (emptied_in (line ++ n ∷ [])) ms → changed (is_member n) emptied (map (emptied_in line) (m ∷ ms)) ≡ map (emptied_in (line ++ n ∷ [])) (m ∷ ms)
    by true here rest =
        ap (λ b. cond b (emptied (emptied_in line m) ∷ map (emptied_in line) ms) (emptied_in line m ∷ changed (is_member n) emptied (map (emptied_in line) ms))) (same ∙ here)
        ∙ ap₂ (λ x xs. x ∷ xs) (emptied_here line n m here) (sym (above_stay line n ms (subst (λ k. AllByRecursion (λ q. nat_cmp k q ≡ Less) (numbers_of ms)) (number_is m.number n here) rising.0)))
    by false other rest =
        ap (λ b. cond b (emptied (emptied_in line m) ∷ map (emptied_in line) ms) (emptied_in line m ∷ changed (is_member n) emptied (map (emptied_in line) ms))) (same ∙ other)
        ∙ ap₂ (λ x xs. x ∷ xs) (sym (emptied_as line n m other)) rest

pub emptied_none : (ms : List Member) → map (emptied_in []) ms ≡ ms
emptied_none [] = refl
emptied_none (m ∷ ms) = ap (λ xs. m ∷ xs) (emptied_none ms)

pub numbers_emptied : (line : List ℕ) (ms : List Member) → numbers_of (map (emptied_in line) ms) ≡ numbers_of ms
numbers_emptied line ms = keys_mapped (λ (m : Member). m.number) {other = λ (m : Member). m.number} (emptied_in line) (number_kept line) ms

pub emptied_further : (line : List ℕ) (i : ℕ) (ms now new : List Member) → NumbersRise ms → i < length line → now ≡ map (emptied_in (take i line)) ms → new ≡ changed (is_member (get_or line i 0)) emptied now → new ≡ map (emptied_in (take (i + 1) line)) ms
emptied_further line i ms now new rising below is after =
    after
    ∙ ap (λ xs. changed (is_member (get_or line i 0)) emptied xs) is
    ∙ emptied_on (take i line) (get_or line i 0) ms (sorted_from_strictly_increasing (numbers_of ms) rising)
    ∙ ap (λ ns. map (emptied_in ns) ms) (sym (take_more line i 0 below))

pub still_rising : (line : List ℕ) (ms now : List Member) → NumbersRise ms → now ≡ map (emptied_in line) ms → NumbersRise now
still_rising line ms now rising is = subst (λ ns. IsStrictlyIncreasing ns) (sym (ap numbers_of is ∙ numbers_emptied line ms)) rising

-- ---- the line of those who pass

first_apart : (n : ℕ) (line : List ℕ) (ms : List Member) → AllByRecursion (λ q. nat_cmp n q ≡ Less) (numbers_of ms) → map (emptied_in (n ∷ line)) ms ≡ map (emptied_in line) ms
first_apart n line [] above = refl
first_apart n line (m ∷ ms) above =
    ap₂ (λ x xs. x ∷ xs) (ap (λ b. cond (b || is_in line m) (emptied m) m) (apart_above m.number n (is_less n m.number above.0))) (first_apart n line ms above.1)

module _ (p : Member → Bool) where
  not_in : (x : Member) (ms : List Member) → AllByRecursion (λ q. nat_cmp x.number q ≡ Less) (numbers_of ms) → is_in (numbers_of (filter p ms)) x ≡ false
  not_in x [] above = refl
  not_in x (m ∷ ms) above = by (p m) (not_in x ms above.1)
    where
      by : (b : Bool) → is_in (numbers_of (filter p ms)) x ≡ false → is_in (numbers_of (cond b (m ∷ filter p ms) (filter p ms))) x ≡ false
      by true rest = ap (λ b. b || is_in (numbers_of (filter p ms)) x) (apart_below x.number m.number (is_less x.number m.number above.0)) ∙ rest
      by false rest = rest

  emptied_passing : (ms : List Member) → IsStrictlySortedBy nat_cmp (numbers_of ms) → map (emptied_in (numbers_of (filter p ms))) ms ≡ map (λ m. if p m then emptied m else m) ms
  unfolding IsStrictlySortedBy
  emptied_passing [] rising = refl
  emptied_passing (x ∷ ms) rising = by (p x) (emptied_passing ms rising.1)
    where
      by : (b : Bool) → map (emptied_in (numbers_of (filter p ms))) ms ≡ map (λ m. if p m then emptied m else m) ms → map (emptied_in (numbers_of (cond b (x ∷ filter p ms) (filter p ms)))) (x ∷ ms) ≡ cond b (emptied x) x ∷ map (λ m. if p m then emptied m else m) ms
      by true rest = ap₂ (λ y ys. y ∷ ys) (ap (λ b. cond (b || is_in (numbers_of (filter p ms)) x) (emptied x) x) (itself x.number)) (first_apart x.number (numbers_of (filter p ms)) ms rising.0 ∙ rest)
      by false rest = ap₂ (λ y ys. y ∷ ys) (ap (λ b. cond b (emptied x) x) (not_in x ms rising.0)) rest

  pub emptied_those : (ms : List Member) (line : List ℕ) → NumbersRise ms → line ≡ numbers_of (filter p ms) → map (emptied_in line) ms ≡ map (λ m. if p m then emptied m else m) ms
  emptied_those ms line rising is = ap (λ ns. map (emptied_in ns) ms) is ∙ emptied_passing ms (sorted_from_strictly_increasing (numbers_of ms) rising)
