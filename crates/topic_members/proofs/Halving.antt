-- Halving the members, whose numbers rise.
use Rattle.std.proofs.Common.{◌≡◌, ℕ, ◌+◌, ◌<◌, ◌≤◌, true, false, List, [], ◌∷◌, map, length, Option, Some, None, refl, ap, sym, ◌∙◌, subst, position, get_or, inl, inr, arith}
use Rattle.std.specs.List.{find}
use Rattle.std.specs.Ordering.{nat_cmp}
use Rattle.std.specs.declared.cmp.Ordering.TheVariants.{Less, Equal, Greater}
use Rattle.std.proofs.lemmas.Bool.{cases_lt, false≢true}
use Rattle.std.proofs.lemmas.Bool.Decides.{nat_tests}
use Rattle.std.proofs.lemmas.Grind.{common_steps}
use Rattle.std.proofs.lemmas.List.{get_or_default, length-map}
use Rattle.std.proofs.lemmas.List.Quantifiers.{position-Some}
use Rattle.std.proofs.lemmas.Map.Keys.{Less-from_sorted, sorted_from_strictly_increasing}
use Rattle.std.proofs.Math.ListN.{get_or-map}
use Rattle.delivery_machine.specs.State.{Member}
use Rattle.delivery_machine.specs.Words.{is_member}
use Rattle.delivery_machine.proofs.Places.{fails_everywhere, found_there}
use Rattle.topic_members.specs.Members.{NumbersRise}

-- the numbers before the first place are less, and those from the second on are greater
pub record IsBetween (ms : List Member) (n low high : ℕ) : Type 0 where
  pub ordered : low ≤ high
  pub within : high ≤ length ms
  pub before : (k : ℕ) (d : Member) → k < low → (get_or ms k d).number < n
  pub after : (k : ℕ) (d : Member) → high ≤ k → k < length ms → n < (get_or ms k d).number

pub begins : (ms : List Member) (n : ℕ) → IsBetween ms n 0 (length ms)
begins ms n = record {
  ordered = omega arith;
  within = omega arith;
  before = λ k d low. absurd (omega arith);
  after = λ k d high low. absurd (omega arith);
}

pub is_less : (a b : ℕ) → nat_cmp a b ≡ Less → a < b
is_less a b e = grind (arith, common_steps)

pub is_greater : (a b : ℕ) → nat_cmp a b ≡ Greater → b < a
is_greater a b e = grind (arith, common_steps)

pub is_equal : (a b : ℕ) → nat_cmp a b ≡ Equal → a ≡ b
is_equal a b e = grind (arith, common_steps)

earlier : (ms : List Member) (i j : ℕ) (d : Member) → NumbersRise ms → i < j → j < length ms → (get_or ms i d).number < (get_or ms j d).number
earlier ms i j d rising low within =
    let f : Member → ℕ = λ m. m.number in
    let a : get_or (map f ms) i d.number ≡ (get_or ms i d).number = get_or-map f ms i d in
    let b : get_or (map f ms) j d.number ≡ (get_or ms j d).number = get_or-map f ms j d in
    let less = is_less (get_or (map f ms) i d.number) (get_or (map f ms) j d.number) (Less-from_sorted nat_cmp (map f ms) i j d.number (sorted_from_strictly_increasing (map f ms) rising) low (omega (arith, length-map ms f))) in
    omega (arith, a, b, less)

-- what stands at the middle, whatever is looked for past the end
there : (ms : List Member) (middle : ℕ) (m d : Member) → middle < length ms → m ≡ get_or ms middle m → (get_or ms middle d).number ≡ m.number
there ms middle m d within here = ap (λ (x : Member). x.number) (get_or_default ms middle d m within ∙ sym here)

pub steps_up : (ms : List Member) (n low high middle : ℕ) (m : Member) → NumbersRise ms → IsBetween ms n low high → middle < high → m ≡ get_or ms middle m → m.number < n → IsBetween ms n (middle + 1) high
steps_up ms n low high middle m rising between inside here less = record {
  ordered = omega arith;
  within = between.within;
  before = up_to;
  after = between.after;
}
  where
    inner : middle < length ms
    inner = omega (arith, inside, between.within)

    up_to : (k : ℕ) (d : Member) → k < middle + 1 → (get_or ms k d).number < n
    up_to k d low = elim (cases_lt k middle) [
      | inl before ↦ let a = earlier ms k middle d rising before inner in let b = there ms middle m d inner here in omega (arith, a, b, less)
      | inr beyond ↦
          let same : middle ≡ k = omega arith in
          let b = there ms middle m d inner here in
          subst (λ (i : ℕ). (get_or ms i d).number < n) same (omega (arith, b, less))
    ]

pub steps_down : (ms : List Member) (n low high middle : ℕ) (m : Member) → NumbersRise ms → IsBetween ms n low high → low ≤ middle → middle < high → m ≡ get_or ms middle m → n < m.number → IsBetween ms n low middle
steps_down ms n low high middle m rising between above inside here greater = record {
  ordered = above;
  within = omega (arith, inner);
  before = between.before;
  after = from;
}
  where
    inner : middle < length ms
    inner = omega (arith, inside, between.within)

    from : (k : ℕ) (d : Member) → middle ≤ k → k < length ms → n < (get_or ms k d).number
    from k d high within = elim (cases_lt middle k) [
      | inl before ↦ let a = earlier ms middle k d rising before within in let b = there ms middle m d inner here in omega (arith, a, b, greater)
      | inr beyond ↦
          let same : middle ≡ k = omega arith in
          let b = there ms middle m d inner here in
          subst (λ (i : ℕ). n < (get_or ms i d).number) same (omega (arith, b, greater))
    ]

less_is_not : (m : Member) (n : ℕ) → m.number < n → is_member n m ≡ false
less_is_not m n less = grind (arith, nat_tests)

greater_is_not : (m : Member) (n : ℕ) → n < m.number → is_member n m ≡ false
greater_is_not m n greater = grind (arith, nat_tests)

is_it : (m : Member) (n : ℕ) → m.number ≡ n → is_member n m ≡ true
is_it m n same = grind (arith, nat_tests)

number_of : (m : Member) (n : ℕ) → is_member n m ≡ true → m.number ≡ n
number_of m n is = grind (arith, nat_tests)

pub nowhere : (ms : List Member) (n low high : ℕ) → IsBetween ms n low high → high ≤ low → None ≡ position (is_member n) ms
nowhere ms n low high between over = sym (by ms (position (is_member n) ms) refl fails)
  where
    fails : (k : ℕ) (d : Member) → k < length ms → is_member n (get_or ms k d) ≡ false
    fails k d within = elim (cases_lt k low) [
      | inl before ↦ less_is_not (get_or ms k d) n (between.before k d before)
      | inr beyond ↦ greater_is_not (get_or ms k d) n (between.after k d (omega arith) within)
    ]

    by : (xs : List Member) (r : Option ℕ) → position (is_member n) xs ≡ r → ((k : ℕ) (d : Member) → k < length xs → is_member n (get_or xs k d) ≡ false) → position (is_member n) xs ≡ None
    by xs None e none = e
    by [] (Some i) e none = cc
    by (x ∷ xs) (Some i) e none =
        let is = position-Some (is_member n) (x ∷ xs) i x e in
        absurd (false≢true (sym (none i x is.0) ∙ is.1))

pub found : (ms : List Member) (n middle : ℕ) (m : Member) → NumbersRise ms → middle < length ms → m ≡ get_or ms middle m → m.number ≡ n → Some middle ≡ position (is_member n) ms
found ms n middle m rising within here same = sym (by (position (is_member n) ms) refl)
  where
    passes : (d : Member) → is_member n (get_or ms middle d) ≡ true
    passes d = is_it (get_or ms middle d) n (there ms middle m d within here ∙ same)

    by : (r : Option ℕ) → position (is_member n) ms ≡ r → position (is_member n) ms ≡ Some middle
    by None e = absurd (false≢true (sym (fails_everywhere (is_member n) ms e middle m within) ∙ passes m))
    by (Some i) e =
        let is = position-Some (is_member n) ms i m e in
        elim (cases_lt i middle) [
          | inl before ↦
              let less = earlier ms i middle m rising before within in
              absurd (omega (arith, less, number_of (get_or ms i m) n is.1, number_of (get_or ms middle m) n (passes m)))
          | inr beyond ↦ elim (cases_lt middle i) [
            | inl after ↦
                let less = earlier ms middle i m rising after is.0 in
                absurd (omega (arith, less, number_of (get_or ms i m) n is.1, number_of (get_or ms middle m) n (passes m)))
            | inr not_after ↦ let e : i ≡ middle = omega arith in e_is e
          ]
        ]
      where
        e_is : i ≡ middle → position (is_member n) ms ≡ Some middle
        e_is same = e ∙ ap (λ (k : ℕ). Some k) same

pub found_at : (ms : List Member) (n place : ℕ) (m : Member) → NumbersRise ms → place < length ms → m ≡ get_or ms place m → is_member n m ≡ true → Some m ≡ find (is_member n) ms
found_at ms n place m rising within here is =
    sym (found_there (is_member n) ms place m (found ms n place m rising within here (number_of m n is)) ∙ ap (λ (x : Member). Some x) (sym here))
