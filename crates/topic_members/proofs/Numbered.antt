-- The members' numbers rise, and the next one is above them all.
use Rattle.std.proofs.Common.{◌≡◌, ℕ, ◌+◌, ◌<◌, ◌^◌, List, [], ◌∷◌, ◌++◌, Bool, true, false, cond, Result, Ok, Err, OnOk, OnErr, Some, position, get_or, set, refl, ap, sym, ◌∙◌, subst, arith}
use Rattle.std.specs.declared.alloc.AllocError.{AllocError}
use Rattle.std.specs.List.{AllByRecursion}
use Rattle.std.specs.List.Sorted.{IsStrictlySortedBy}
use Rattle.std.specs.Ordering.{nat_cmp}
use Rattle.std.specs.declared.cmp.Ordering.TheVariants.{Less}
use Rattle.std.proofs.lemmas.Grind.{common_steps}
use Rattle.std.proofs.lemmas.Map.Keys.{IsStrictlyIncreasing-from_sorted}
use Rattle.delivery_machine.specs.State.{Member}
use Rattle.delivery_machine.specs.Words.{changed, removed}
use Rattle.delivery_machine.proofs.Keyed.{keys_changed}
use Rattle.delivery_machine.proofs.Places.{changed_there}
use Rattle.topic_members.specs.Members.{NumbersRise}
use Rattle.topic_members.specs.Joined.{numbers_of, AreNumbered}
use Rattle.topic_members.proofs.Halving.{is_less}

less_is : (a b : ℕ) → a < b → nat_cmp a b ≡ Less
less_is a b low = grind (arith, common_steps)

all_pushed : (P : ℕ → Type 0) (xs : List ℕ) (n : ℕ) → AllByRecursion P xs → P n → AllByRecursion P (xs ++ n ∷ [])
all_pushed P [] n all one = (one, tt)
all_pushed P (x ∷ xs) n all one = (all.0, all_pushed P xs n all.1 one)

of_last : (P : ℕ → Type 0) (xs : List ℕ) (n : ℕ) → AllByRecursion P (xs ++ n ∷ []) → P n
of_last P [] n all = all.0
of_last P (x ∷ xs) n all = of_last P xs n all.1

of_front : (P : ℕ → Type 0) (xs ys : List ℕ) → AllByRecursion P (xs ++ ys) → AllByRecursion P xs
of_front P [] ys all = tt
of_front P (x ∷ xs) ys all = (all.0, of_front P xs ys all.1)

sorted_front : (xs ys : List ℕ) → IsStrictlySortedBy nat_cmp (xs ++ ys) → IsStrictlySortedBy nat_cmp xs
unfolding IsStrictlySortedBy
sorted_front [] ys rising = tt
sorted_front (x ∷ xs) ys rising = (of_front (λ q. nat_cmp x q ≡ Less) xs ys rising.0, sorted_front xs ys rising.1)

sorted_pushed : (xs : List ℕ) (n : ℕ) → IsStrictlySortedBy nat_cmp (xs ++ n ∷ []) → IsStrictlySortedBy nat_cmp ((xs ++ n ∷ []) ++ (n + 1) ∷ [])
unfolding IsStrictlySortedBy
sorted_pushed [] n rising = ((less_is n (n + 1) (omega arith), tt), (tt, tt))
sorted_pushed (x ∷ xs) n rising =
    let low : x < n = is_less x n (of_last (λ q. nat_cmp x q ≡ Less) xs n rising.0) in
    (all_pushed (λ q. nat_cmp x q ≡ Less) (xs ++ n ∷ []) (n + 1) rising.0 (less_is x (n + 1) (omega (arith, low))), sorted_pushed xs n rising.1)

all_without : (P : ℕ → Type 0) (q : Member → Bool) (ms : List Member) (ys : List ℕ) → AllByRecursion P (numbers_of ms ++ ys) → AllByRecursion P (numbers_of (removed q ms) ++ ys)
all_without P q [] ys all = all
all_without P q (m ∷ ms) ys all = by (q m) (all_without P q ms ys all.1)
  where
    by : (b : Bool) → AllByRecursion P (numbers_of (removed q ms) ++ ys) → AllByRecursion P (numbers_of (cond b ms (m ∷ removed q ms)) ++ ys)
    by true rest = all.1
    by false rest = (all.0, rest)

sorted_without : (q : Member → Bool) (ms : List Member) (ys : List ℕ) → IsStrictlySortedBy nat_cmp (numbers_of ms ++ ys) → IsStrictlySortedBy nat_cmp (numbers_of (removed q ms) ++ ys)
unfolding IsStrictlySortedBy
sorted_without q [] ys rising = rising
sorted_without q (m ∷ ms) ys rising = by (q m) (sorted_without q ms ys rising.1)
  where
    by : (b : Bool) → IsStrictlySortedBy nat_cmp (numbers_of (removed q ms) ++ ys) → IsStrictlySortedBy nat_cmp (numbers_of (cond b ms (m ∷ removed q ms)) ++ ys)
    by true rest = rising.1
    by false rest = (all_without (λ k. nat_cmp m.number k ≡ Less) q ms ys rising.0, rest)

numbers_pushed : (ms : List Member) (m : Member) → numbers_of (ms ++ m ∷ []) ≡ numbers_of ms ++ m.number ∷ []
numbers_pushed [] m = refl
numbers_pushed (x ∷ ms) m = ap (λ ns. x.number ∷ ns) (numbers_pushed ms m)

-- ---- of a list and its next number

pub numbered_none : AreNumbered [] 1
unfolding IsStrictlySortedBy
numbered_none = record { rising = (tt, tt); bounded = omega arith }

pub rises : (ms : List Member) (next : ℕ) → AreNumbered (numbers_of ms) next → NumbersRise ms
rises ms next at = IsStrictlyIncreasing-from_sorted (numbers_of ms) (sorted_front (numbers_of ms) (next ∷ []) at.rising)

pub numbered_pushed : (ms : List Member) (next : ℕ) (m : Member) → AreNumbered (numbers_of ms) next → next < 2 ^ 63 → m.number ≡ next → AreNumbered (numbers_of (ms ++ m ∷ [])) (next + 1)
numbered_pushed ms next m at low is = record {
  rising = subst (λ (ns : List ℕ). IsStrictlySortedBy nat_cmp (ns ++ (next + 1) ∷ [])) (sym (numbers_pushed ms m ∙ ap (λ (n : ℕ). numbers_of ms ++ n ∷ []) is)) (sorted_pushed (numbers_of ms) next at.rising);
  bounded = omega arith;
}

-- the number of the last one is the next where it is taken back
pub numbered_popped : (ms front : List Member) (m : Member) (next : ℕ) → AreNumbered (numbers_of ms) next → ms ≡ front ++ m ∷ [] → AreNumbered (numbers_of front) m.number
unfolding IsStrictlySortedBy
numbered_popped ms front m next at is =
    let numbers : numbers_of ms ≡ numbers_of front ++ m.number ∷ [] = ap numbers_of is ∙ numbers_pushed front m in
    let rising = subst (λ (ns : List ℕ). IsStrictlySortedBy nat_cmp (ns ++ next ∷ [])) numbers at.rising in
    let below : m.number < next = last_below (numbers_of front) m.number next rising in
    record { rising = sorted_front (numbers_of front ++ m.number ∷ []) (next ∷ []) rising; bounded = omega (arith, below, at.bounded) }
  where
    last_below : (ns : List ℕ) (n k : ℕ) → IsStrictlySortedBy nat_cmp ((ns ++ n ∷ []) ++ k ∷ []) → n < k
    last_below [] n k rising = is_less n k rising.0.0
    last_below (x ∷ ns) n k rising = last_below ns n k rising.1

pub numbered_without : (q : Member → Bool) (ms : List Member) (next : ℕ) → AreNumbered (numbers_of ms) next → AreNumbered (numbers_of (removed q ms)) next
numbered_without q ms next at = record { rising = sorted_without q ms (next ∷ []) at.rising; bounded = at.bounded }

pub numbered_same : (ms new : List Member) (next : ℕ) → AreNumbered (numbers_of ms) next → numbers_of new ≡ numbers_of ms → AreNumbered (numbers_of new) next
numbered_same ms new next at same = subst (λ (ns : List ℕ). AreNumbered ns next) (sym same) at

-- where one member changes, and keeps its number
pub numbered_changed : (q : Member → Bool) (f : Member → Member) → ((m : Member) → (f m).number ≡ m.number) → (ms new : List Member) (next : ℕ) → AreNumbered (numbers_of ms) next → new ≡ changed q f ms → AreNumbered (numbers_of new) next
numbered_changed q f keeps ms new next at is = numbered_same ms new next at (ap numbers_of is ∙ keys_changed (λ m. m.number) q f keeps ms)

-- where it changes unless there is no memory
pub numbered_given : (r : Result Unit AllocError) (q : Member → Bool) (f : Member → Member) → ((m : Member) → (f m).number ≡ m.number) → (ms new : List Member) (next : ℕ) → AreNumbered (numbers_of ms) next → OnOk r (new ≡ changed q f ms) → OnErr r (new ≡ ms) → AreNumbered (numbers_of new) next
numbered_given (Ok u) q f keeps ms new next at ok err = numbered_changed q f keeps ms new next at ok
numbered_given (Err e) q f keeps ms new next at ok err = numbered_same ms new next at (ap numbers_of err)

-- so where the code writes at the member's place
pub numbers_there : (q : Member → Bool) (f : Member → Member) → ((m : Member) → (f m).number ≡ m.number) → (ms : List Member) (i : ℕ) (d y : Member) → Some i ≡ position q ms → y ≡ f (get_or ms i d) → numbers_of (set ms i y) ≡ numbers_of ms
numbers_there q f keeps ms i d y there is = ap numbers_of (changed_there q f ms i d y there is) ∙ keys_changed (λ m. m.number) q f keeps ms
