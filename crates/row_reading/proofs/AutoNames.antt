-- A name that a topic makes is short: the name of each smaller number is in use, and few names are.
use Rattle.std.proofs.Common.{◌≡◌, ℕ, zero, suc, ◌+◌, ◌<◌, ◌≤◌, ◌^◌, List, [], ◌∷◌, ◌++◌, map, length, get_or, Bool, true, false, refl, ap, ◌∙◌, ap₂, subst, arith, inl, inr, rules, length-append}
use Rattle.std.specs.Prelude.{codes, ◌||◌}
use Rattle.std.specs.List.{AllByRecursion, IsDistinct, list_any}
use Rattle.std.specs.List.Sorted.{IsStrictlyIncreasing}
use Rattle.std.specs.Set.{is_member}
use Rattle.std.specs.Str.{IsAscii, bytes_eq}
use Rattle.std.specs.Fmt.{decimal}
use Rattle.std.specs.Cmp.Lexicographic.{nat_list_eq_equiv}
use Rattle.std.proofs.lemmas.Bool.{cases_lt, false_from_ne_true}
use Rattle.std.proofs.lemmas.Fmt.{IsAscii-decimal, decimal_injective, length-decimal-le}
use Rattle.std.proofs.lemmas.List.{append_cancel_left, length-map}
use Rattle.std.proofs.lemmas.List.Folds.{list_any-append}
use Rattle.std.proofs.lemmas.Map.Made.{length-le_from_is_member}
use Rattle.std.proofs.lemmas.Str.{IsUtf8-append, IsUtf8-from_ascii}
use Rattle.delivery_machine.specs.State.{State}
use Rattle.delivery_machine.specs.Words.{known, signed, signed_by}
use Rattle.delivery_machine.specs.Producing.{IsLeastFree, auto_name, is_used}
use Rattle.delivery_machine.specs.WellFormed.{AreAuthors, AreGiven}
use Rattle.delivery_machine.proofs.Behind.{same_name}
use Rattle.row_reading.specs.Reading.{IsText}

-- the names of the numbers below one
abbrev names_below : ℕ → List (List ℕ)
names_below zero = []
names_below (suc n) = auto_name n ∷ names_below n

length_below : (n : ℕ) → length (names_below n) ≡ n
length_below zero = refl
length_below (suc n) = let rest = length_below n in omega arith

-- ---- none of them is another

one_number : (k n : ℕ) → k < 2 ^ 64 → n < 2 ^ 64 → auto_name k ≡ auto_name n → k ≡ n
one_number k n small low same = decimal_injective k n small low (append_cancel_left (codes "auto-") (decimal k) (decimal n) same)

unlike_lower : (n k : ℕ) → n < 2 ^ 64 → k ≤ n → AllByRecursion (λ name. bytes_eq (auto_name n) name ≡ false) (names_below k)
unlike_lower n zero small low = tt
unlike_lower n (suc k) small low = (
  false_from_ne_true (bytes_eq (auto_name n) (auto_name k)) (λ same.
      let is = one_number n k small (omega arith) (same_name (auto_name n) (auto_name k) same) in
      absurd (omega arith)),
  unlike_lower n k small (omega arith),
)

names_differ : (n : ℕ) → n < 2 ^ 64 → IsDistinct bytes_eq (names_below n)
unfolding IsDistinct
names_differ zero small = tt
names_differ (suc n) small = (unlike_lower n n (omega arith) (omega arith), names_differ n (omega arith))

-- ---- each of them is in use

-- the names that are connected, and those of the messages that are known
abbrev names_in : State → List (List ℕ)
names_in s = map (λ p. p.name) s.producers ++ map (λ n. n.name) (known s)

among_mapped : {A : Type 0} (name_of : A → List ℕ) (xs : List A) (name : List ℕ) → is_member bytes_eq (map name_of xs) name ≡ list_any (λ x. bytes_eq (name_of x) name) xs
among_mapped name_of [] name = refl
among_mapped name_of (x ∷ xs) name =
    ap (λ b. b || is_member bytes_eq (map name_of xs) name) (nat_list_eq_equiv.symm name (name_of x))
    ∙ ap (λ b. bytes_eq (name_of x) name || b) (among_mapped name_of xs name)

used_among : (s : State) (name : List ℕ) → is_member bytes_eq (names_in s) name ≡ is_used s name
used_among s name =
    list_any-append (bytes_eq name) (map (λ p. p.name) s.producers) (map (λ n. n.name) (known s))
    ∙ ap₂ (λ a b. a || b) (among_mapped (λ p. p.name) s.producers name) (among_mapped (λ n. n.name) (known s) name)

all_used : (s : State) (n m : ℕ) → IsLeastFree s n → m ≤ n → (name : List ℕ) → is_member bytes_eq (names_below m) name ≡ true → is_member bytes_eq (names_in s) name ≡ true
all_used s n zero least low name at = cc
all_used s n (suc m) least low name at = by (bytes_eq name (auto_name m)) refl at (all_used s n m least (omega arith) name)
  where
    by : (b : Bool) → bytes_eq name (auto_name m) ≡ b → (b || is_member bytes_eq (names_below m) name) ≡ true → (is_member bytes_eq (names_below m) name ≡ true → is_member bytes_eq (names_in s) name ≡ true)
        → is_member bytes_eq (names_in s) name ≡ true
    by true is at rest = used_among s name ∙ ap (is_used s) (same_name name (auto_name m) is) ∙ least.1 m (omega arith)
    by false is at rest = rest at

pub least_is_low : (s : State) (n m : ℕ) → IsLeastFree s n → m ≤ n → m < 2 ^ 64 → m ≤ length s.producers + length (known s)
least_is_low s n m least low small =
    let fewer = length-le_from_is_member nat_list_eq_equiv (names_below m) (names_in s) (names_differ m small) (all_used s n m least low) in
    let all = length-append (map (λ p. p.name) s.producers) (map (λ n. n.name) (known s)) in
    omega (arith, fewer, all, length_below m, length-map s.producers (λ p. p.name), length-map (known s) (λ n. n.name))

-- ---- so the name is short

few_digits : (s : State) (n end : ℕ) → IsLeastFree s n → length s.producers + length (known s) < end → end < 2 ^ 64 → n < end
few_digits s n end least few small = elim (cases_lt n end) [
  | inl low ↦ low
  | inr high ↦ let many = least_is_low s n end least high small in absurd (omega arith)
]

auto_text : (n : ℕ) → n < 2 ^ 63 → IsText 1 1280 (auto_name n)
auto_text n low =
    let prefix : IsAscii (codes "auto-") = search rules in
    let digits = length-decimal-le 19 n (omega arith) (omega arith) (omega arith) in
    let whole = length-append (codes "auto-") (decimal n) in
    (IsUtf8-append (codes "auto-") (decimal n) (IsUtf8-from_ascii (codes "auto-") prefix) (IsUtf8-from_ascii (decimal n) (IsAscii-decimal n (omega arith))), omega arith, omega arith)

-- each of numbers that rise is no less than its place
numbers_rise : (numbers : List ℕ) → IsStrictlyIncreasing numbers → (k : ℕ) → k < length numbers → k ≤ get_or numbers k 0
numbers_rise numbers rising zero low = omega arith
numbers_rise numbers rising (suc k) low =
    let before = numbers_rise numbers rising k (omega arith) in
    let next : k + 1 ≡ suc k = omega arith in
    let more : get_or numbers k 0 < get_or numbers (suc k) 0 = subst (λ (i : ℕ). get_or numbers k 0 < get_or numbers i 0) next (rising k (omega arith)) in
    omega (arith, before, more)

-- so below an end there are no more than it
few_given : (end : ℕ) (numbers : List ℕ) → AreGiven end numbers → length numbers ≤ end
few_given end numbers given = by (length numbers) refl
  where
    by : (n : ℕ) → length numbers ≡ n → n ≤ end
    by zero long = omega arith
    by (suc k) long =
        let low : k < length numbers = omega (arith, long) in
        let least = numbers_rise numbers given.rising k low in
        let below = given.below k 0 low in
        omega (arith, least, below)

-- there are few messages and producers, and at most 2^62 messages are gone
pub auto_name_is_text : (s : State) (n : ℕ) → IsLeastFree s n → s.gone ≤ 2 ^ 62 → AreAuthors s.gone s.authors → length s.producers + length s.log < 2 ^ 62 → IsText 1 1280 (auto_name n)
auto_name_is_text s n least gone authors few =
    let remembered = few_given s.gone (map (λ a. a.index) s.authors) authors.indexes in
    let known_are = length-append (map signed_by s.authors) (map signed s.log) in
    let all : length s.producers + length (known s) < 2 ^ 63 = omega (arith, remembered, known_are, length-map s.authors (λ a. a.index), length-map s.authors signed_by, length-map s.log signed, gone, few) in
    auto_text n (few_digits s n (2 ^ 63) least all (omega arith))
