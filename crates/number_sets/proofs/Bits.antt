-- What a bit says once a word was written, and the least bit of a word.
use Rattle.std.proofs.Common.{◌≡◌, ℕ, zero, suc, ◌+◌, ◌-◌, ◌*◌, ◌/◌, ◌%◌, ◌^◌, ◌<◌, ◌≤◌, Bool, true, false, not, List, [], ◌∷◌, ◌++◌, take, replicate, length, get_or, inl, inr, refl, sym, ap, ◌∙◌, subst, arith, eq-eqb, Option, Some, None}
use Rattle.std.specs.Prelude.{◌==◌, ◌&&◌, ◌||◌, bit_and, bit_or, slice_set}
use Rattle.std.specs.Int.{w64, bit_at, bit_not, trailing_zeros}
use Rattle.std.proofs.lemmas.Bool.{cases_eq, cases_lt, cases_Bool, ne_eqb, false≢true, or_left, not_from_false}
use Rattle.std.proofs.lemmas.List.{get_or-set_same, get_or-set_other, get_or_past, get_or-replicate, length-replicate, take_all}
use Rattle.std.proofs.Math.Nat.{div-le_self, div-one}
use Rattle.std.specs.Prelude.{IfSome, IfNone}
use Rattle.std.proofs.lemmas.Nat.{shr-shr, and_le_l}
use Rattle.std.proofs.lemmas.Nat.Bits.{bit_at-zero, bit_at_above, bit_at_set_same, bit_at_set_other, bit_at_clear_same, bit_at_clear_other, bit_at-trailing_zeros}
use Rattle.number_sets.specs.Bits.{has, is_used, IsNextInWord, NoneInWord}
use Rattle.number_sets.specs.Places.{IsNext, NoneFrom}

-- ---- a word that was written

module _ (ws : List ℕ) (n i v : ℕ) where
  same_word : n / 64 < length ws → i / 64 ≡ n / 64 → has (slice_set ws (n / 64) v) i ≡ (bit_at v (i % 64) == 1)
  unfolding has
  same_word within same =
      ap (λ (x : ℕ). bit_at x (i % 64) == 1) (ap (λ (k : ℕ). get_or (slice_set ws (n / 64) v) k 0) same ∙ get_or-set_same ws (n / 64) v 0 within)

  other_word : (i / 64 ≡ n / 64 → ⊥) → has (slice_set ws (n / 64) v) i ≡ has ws i
  unfolding has
  other_word other = ap (λ (x : ℕ). bit_at x (i % 64) == 1) (get_or-set_other ws (n / 64) (i / 64) v 0 other)

has_in : (ws : List ℕ) (n i : ℕ) → i / 64 ≡ n / 64 → (bit_at (get_or ws (n / 64) 0) (i % 64) == 1) ≡ has ws i
unfolding has
has_in ws n i same = ap (λ (k : ℕ). bit_at (get_or ws k 0) (i % 64) == 1) (sym same)

same_number : (i n : ℕ) → i / 64 ≡ n / 64 → i % 64 ≡ n % 64 → i ≡ n
same_number i n quotient rest = omega arith

other_words : (i n : ℕ) → (i / 64 ≡ n / 64 → ⊥) → i ≡ n → ⊥
other_words i n other same = other (ap (λ (k : ℕ). k / 64) same)

abbrev with_bit : ℕ → ℕ → ℕ
with_bit v n = bit_or v (1 * 2 ^ (n % 64) % 2 ^ 64)

abbrev without_bit : ℕ → ℕ → ℕ
without_bit v n = bit_and v (bit_not w64 (1 * 2 ^ (n % 64) % 2 ^ 64))

pub put_has : (ws : List ℕ) (n : ℕ) → n / 64 < length ws → (i : ℕ) → has (slice_set ws (n / 64) (with_bit (get_or ws (n / 64) 0) n)) i ≡ (i == n || has ws i)
put_has ws n within i =
    let old = get_or ws (n / 64) 0 in
    let small : n % 64 < 64 = omega arith in
    elim (cases_eq (i / 64) (n / 64)) [
      | inl same ↦ elim (cases_eq i n) [
        | inl is ↦
            same_word ws n i (with_bit old n) within same
            ∙ ap (λ (k : ℕ). bit_at (with_bit old n) k == 1) (ap (λ (k : ℕ). k % 64) is)
            ∙ ap (λ (b : ℕ). b == 1) (bit_at_set_same w64 old (n % 64) small)
            ∙ sym (or_left (i == n) (has ws i) (eq-eqb i n is))
        | inr other ↦
            same_word ws n i (with_bit old n) within same
            ∙ ap (λ (b : ℕ). b == 1) (bit_at_set_other w64 old (n % 64) small (i % 64) (λ rest. other (same_number i n same rest)))
            ∙ has_in ws n i same
            ∙ sym (ap (λ (b : Bool). b || has ws i) (ne_eqb i n other))
      ]
      | inr apart ↦
          other_word ws n i (with_bit old n) apart
          ∙ sym (ap (λ (b : Bool). b || has ws i) (ne_eqb i n (other_words i n apart)))
    ]

pub take_has : (ws : List ℕ) (n : ℕ) → n / 64 < length ws → (i : ℕ) → has (slice_set ws (n / 64) (without_bit (get_or ws (n / 64) 0) n)) i ≡ (not (i == n) && has ws i)
take_has ws n within i =
    let old = get_or ws (n / 64) 0 in
    let small : n % 64 < 64 = omega arith in
    elim (cases_eq (i / 64) (n / 64)) [
      | inl same ↦ elim (cases_eq i n) [
        | inl is ↦
            same_word ws n i (without_bit old n) within same
            ∙ ap (λ (k : ℕ). bit_at (without_bit old n) k == 1) (ap (λ (k : ℕ). k % 64) is)
            ∙ ap (λ (b : ℕ). b == 1) (bit_at_clear_same w64 old (n % 64) small)
            ∙ sym (ap (λ (b : Bool). not b && has ws i) (eq-eqb i n is))
        | inr other ↦
            same_word ws n i (without_bit old n) within same
            ∙ ap (λ (b : ℕ). b == 1) (bit_at_clear_other w64 old (n % 64) small (i % 64) (omega arith) (λ rest. other (same_number i n same rest)))
            ∙ has_in ws n i same
            ∙ sym (ap (λ (b : Bool). not b && has ws i) (ne_eqb i n other))
      ]
      | inr apart ↦
          other_word ws n i (without_bit old n) apart
          ∙ sym (ap (λ (b : Bool). not b && has ws i) (ne_eqb i n (other_words i n apart)))
    ]

pub has_past : (ws : List ℕ) (i : ℕ) → length ws ≤ i / 64 → has ws i ≡ false
unfolding has
has_past ws i past = ap (λ (x : ℕ). bit_at x (i % 64) == 1) (get_or_past ws (i / 64) 0 past) ∙ ap (λ (b : ℕ). b == 1) (bit_at-zero (i % 64))

pub take_past : (ws : List ℕ) (n : ℕ) → length ws ≤ n / 64 → (i : ℕ) → has ws i ≡ (not (i == n) && has ws i)
take_past ws n past i = elim (cases_eq i n) [
  | inl is ↦
      ap (has ws) is ∙ has_past ws n past
      ∙ sym (ap (λ (b : Bool). not b && has ws i) (eq-eqb i n is))
  | inr other ↦ sym (ap (λ (b : Bool). not b && has ws i) (ne_eqb i n other))
]

-- ---- words that are not empty

used_set_same : (ws : List ℕ) (m v : ℕ) → m < length ws → is_used (slice_set ws m v) m ≡ not (v == 0)
unfolding is_used
used_set_same ws m v within = ap (λ (x : ℕ). not (x == 0)) (get_or-set_same ws m v 0 within)

used_set_other : (ws : List ℕ) (m v w : ℕ) → (w ≡ m → ⊥) → is_used (slice_set ws m v) w ≡ is_used ws w
unfolding is_used
used_set_other ws m v w other = ap (λ (x : ℕ). not (x == 0)) (get_or-set_other ws m w v 0 other)

with_bit-used : (v n : ℕ) → not (with_bit v n == 0) ≡ true
with_bit-used v n = not_from_false _ (ne_eqb _ 0 (λ none.
    let one = bit_at_set_same w64 v (n % 64) (omega arith) in
    let zero_bit : bit_at (with_bit v n) (n % 64) ≡ 0 = ap (λ (x : ℕ). bit_at x (n % 64)) none ∙ bit_at-zero (n % 64) in
    absurd (omega (arith, sym one ∙ zero_bit))))

pub put_used : (ws : List ℕ) (n : ℕ) → n / 64 < length ws → (w : ℕ) → is_used (slice_set ws (n / 64) (with_bit (get_or ws (n / 64) 0) n)) w ≡ (w == n / 64 || is_used ws w)
put_used ws n within w =
    let new = with_bit (get_or ws (n / 64) 0) n in
    elim (cases_eq w (n / 64)) [
      | inl is ↦
          ap (is_used (slice_set ws (n / 64) new)) is ∙ used_set_same ws (n / 64) new within ∙ with_bit-used (get_or ws (n / 64) 0) n
          ∙ sym (or_left (w == n / 64) (is_used ws w) (eq-eqb w (n / 64) is))
      | inr other ↦
          used_set_other ws (n / 64) new w other
          ∙ sym (ap (λ (b : Bool). b || is_used ws w) (ne_eqb w (n / 64) other))
    ]

still_empty : (v mask : ℕ) → not (bit_and v mask == 0) ≡ (not (bit_and v mask == 0 && true) && not (v == 0))
still_empty v mask = elim (cases_eq v 0) [
  | inl none ↦
      let gone : bit_and v mask ≡ 0 = omega (arith, and_le_l v mask, none) in
      ap (λ (b : Bool). not b) (eq-eqb _ 0 gone) ∙ sym (ap (λ (b : Bool). not (b && true) && not (v == 0)) (eq-eqb _ 0 gone))
  | inr some ↦
      by (bit_and v mask == 0) ∙ sym (ap (λ (b : Bool). not (bit_and v mask == 0 && true) && not b) (ne_eqb v 0 some))
]
  where
    by : (b : Bool) → not b ≡ (not (b && true) && not false)
    by true = refl
    by false = refl

pub take_used : (ws : List ℕ) (m mask : ℕ) → m < length ws → (w : ℕ) → is_used (slice_set ws m (bit_and (get_or ws m 0) mask)) w ≡ (not (bit_and (get_or ws m 0) mask == 0 && w == m) && is_used ws w)
unfolding is_used
take_used ws m mask within w =
    let new = bit_and (get_or ws m 0) mask in
    elim (cases_eq w m) [
      | inl is ↦
          ap (is_used (slice_set ws m new)) is ∙ used_set_same ws m new within ∙ still_empty (get_or ws m 0) mask
          ∙ ap (λ (k : ℕ). not (new == 0 && true) && not (get_or ws k 0 == 0)) (sym is)
          ∙ ap (λ (b : Bool). not (new == 0 && b) && is_used ws w) (sym (eq-eqb w m is))
      | inr other ↦
          used_set_other ws m new w other ∙ by (new == 0)
          ∙ ap (λ (b : Bool). not (new == 0 && b) && is_used ws w) (sym (ne_eqb w m other))
    ]
  where
    by : (b : Bool) → is_used ws w ≡ (not (b && false) && is_used ws w)
    by true = refl
    by false = refl

pub empty_word : (ws : List ℕ) (w i : ℕ) → is_used ws w ≡ false → i / 64 ≡ w → has ws i ≡ false
unfolding has is_used
empty_word ws w i empty same =
    let none : get_or ws (i / 64) 0 ≡ 0 = elim (cases_eq (get_or ws (i / 64) 0) 0) [
      | inl is ↦ is
      | inr some ↦ absurd (false≢true (sym empty ∙ ap (λ (k : ℕ). not (get_or ws k 0 == 0)) (sym same) ∙ not_from_false _ (ne_eqb _ 0 some)))
    ] in
    ap (λ (x : ℕ). bit_at x (i % 64) == 1) none ∙ ap (λ (b : ℕ). b == 1) (bit_at-zero (i % 64))

-- ---- the least bit

bit_in_rest : (v r j : ℕ) → bit_at (v / 2 ^ r) j ≡ bit_at v (r + j)
bit_in_rest v r j = ap (λ (x : ℕ). x % 2) (shr-shr v r j)

-- a number of the word of `from`, from there on
further : (ws : List ℕ) (from k j : ℕ) → k ≡ from + j → k / 64 ≡ from / 64 → has ws k ≡ (bit_at (get_or ws (from / 64) 0 / 2 ^ (from % 64)) j == 1)
unfolding has
further ws from k j is same =
    let rest : k % 64 ≡ from % 64 + j = omega arith in
    ap (λ (w : ℕ). bit_at (get_or ws w 0) (k % 64) == 1) same
    ∙ ap (λ (b : ℕ). bit_at (get_or ws (from / 64) 0) b == 1) rest
    ∙ ap (λ (b : ℕ). b == 1) (sym (bit_in_rest (get_or ws (from / 64) 0) (from % 64) j))

pub none_in_word : (ws : List ℕ) (from : ℕ) → get_or ws (from / 64) 0 / 2 ^ (from % 64) ≡ 0 → NoneInWord ws from
none_in_word ws from none k after same =
    further ws from k (k - from) (omega arith) same
    ∙ ap (λ (x : ℕ). bit_at x (k - from) == 1) none
    ∙ ap (λ (b : ℕ). b == 1) (bit_at-zero (k - from))

pub none_past : (ws : List ℕ) (from : ℕ) → length ws ≤ from / 64 → NoneInWord ws from
none_past ws from past k after same = has_past ws k (omega arith)

-- the rest of a word has its least bit within the word
within_word : (v r : ℕ) → v < 2 ^ 64 → 0 < v / 2 ^ r → v / 2 ^ r < 2 ^ 64 → r + trailing_zeros w64 (v / 2 ^ r) < 64
within_word v r small some rest_small =
    let rest = bit_at-trailing_zeros w64 (v / 2 ^ r) some rest_small in
    let at : ℕ = r + trailing_zeros w64 (v / 2 ^ r) in
    let one : bit_at v at ≡ 1 = sym (bit_in_rest v r (trailing_zeros w64 (v / 2 ^ r))) ∙ rest.1 in
    elim (cases_lt at 64) [
      | inl below ↦ below
      | inr above ↦ absurd (omega (arith, sym one ∙ bit_at_above v 64 at small above))
    ]

-- the number whose bit it is stands in the word of `from`
pub least_within : (ws : List ℕ) (from t : ℕ) → t ≡ trailing_zeros w64 (get_or ws (from / 64) 0 / 2 ^ (from % 64)) → get_or ws (from / 64) 0 < 2 ^ 64 → (get_or ws (from / 64) 0 / 2 ^ (from % 64) ≡ 0 → ⊥) → from % 64 + t < 64
least_within ws from t is small some =
    let v : ℕ = get_or ws (from / 64) 0 in
    subst (λ (x : ℕ). from % 64 + x < 64) (sym is)
    (within_word v (from % 64) small (omega (arith, some)) (omega (arith, div-le_self v (2 ^ (from % 64)), small)))

pub next_is : (ws : List ℕ) (from t : ℕ) → t ≡ trailing_zeros w64 (get_or ws (from / 64) 0 / 2 ^ (from % 64)) → get_or ws (from / 64) 0 < 2 ^ 64 → (get_or ws (from / 64) 0 / 2 ^ (from % 64) ≡ 0 → ⊥) → IsNextInWord ws from (from + t)
next_is ws from t is small some =
    let v : ℕ = get_or ws (from / 64) 0 in
    let inside : from % 64 + t < 64 = least_within ws from t is small some in
    let rest_small : v / 2 ^ (from % 64) < 2 ^ 64 = omega (arith, div-le_self v (2 ^ (from % 64)), small) in
    let rest = bit_at-trailing_zeros w64 (v / 2 ^ (from % 64)) (omega (arith, some)) rest_small in
    let same : (from + t) / 64 ≡ from / 64 = omega arith in
    record {
      after = omega arith;
      word = same;
      is_in = further ws from (from + t) t refl same ∙ ap (λ (j : ℕ). bit_at (v / 2 ^ (from % 64)) j == 1) is ∙ ap (λ (b : ℕ). b == 1) rest.1;
      least = λ k after before.
          further ws from k (k - from) (omega arith) (omega arith)
          ∙ ap (λ (b : ℕ). b == 1) (rest.2 (k - from) (omega (arith, is)));
    }

-- ---- more words

pub same_has : (ws fs : List ℕ) → ((k : ℕ) → get_or fs k 0 ≡ get_or ws k 0) → (i : ℕ) → has fs i ≡ has ws i
unfolding has
same_has ws fs same i = ap (λ (x : ℕ). bit_at x (i % 64) == 1) (same (i / 64))

pub same_used : (ws fs : List ℕ) → ((k : ℕ) → get_or fs k 0 ≡ get_or ws k 0) → (w : ℕ) → is_used fs w ≡ is_used ws w
unfolding is_used
same_used ws fs same w = ap (λ (x : ℕ). not (x == 0)) (same w)

pub widened : (ws fs : List ℕ) (n m : ℕ) → fs ≡ take n ws ++ replicate m 0 → length ws ≤ n → (k : ℕ) → get_or fs k 0 ≡ get_or ws k 0
widened ws fs n m is fits k =
    ap (λ (xs : List ℕ). get_or xs k 0) (is ∙ ap (λ (xs : List ℕ). xs ++ replicate m 0) (take_all n ws fits))
    ∙ filled ws m k
  where
    filled : (xs : List ℕ) (m k : ℕ) → get_or (xs ++ replicate m 0) k 0 ≡ get_or xs k 0
    filled [] m k = elim (cases_lt k m) [
      | inl below ↦ get_or-replicate m k 0 0 below
      | inr past ↦ get_or_past (replicate m 0) k 0 (omega (arith, length-replicate {A = ℕ} m 0))
    ]
    filled (x ∷ xs) m zero = refl
    filled (x ∷ xs) m (suc k) = filled xs m k

pub has_none : (i : ℕ) → has [] i ≡ false
has_none i = has_past [] i (omega arith)

pub used_none : (w : ℕ) → is_used [] w ≡ false
unfolding is_used
used_none w = refl

zeros : (n k : ℕ) → let none : ℕ = 0 in get_or (replicate n none) k 0 ≡ none
zeros n k = elim (cases_lt k n) [
  | inl below ↦ get_or-replicate n k 0 0 below
  | inr past ↦ get_or_past (replicate n 0) k 0 (omega (arith, length-replicate {A = ℕ} n 0))
]

pub has_zeros : (n i : ℕ) → has (replicate n 0) i ≡ false
unfolding has
has_zeros n i = ap (λ (x : ℕ). bit_at x (i % 64) == 1) (zeros n (i / 64)) ∙ ap (λ (b : ℕ). b == 1) (bit_at-zero (i % 64))

pub used_zeros : (n w : ℕ) → is_used (replicate n 0) w ≡ false
unfolding is_used
used_zeros n w = ap (λ (x : ℕ). not (x == 0)) (zeros n w)

pub used_within : (ws : List ℕ) (w : ℕ) → is_used ws w ≡ true → w < length ws
unfolding is_used
used_within ws w used = elim (cases_lt w (length ws)) [
  | inl below ↦ below
  | inr past ↦ absurd (false≢true (sym (ap (λ (x : ℕ). not (x == 0)) (get_or_past ws w 0 past)) ∙ used))
]

pub word_is_empty : (ws : List ℕ) (w : ℕ) → (get_or ws w 0 == 0) ≡ not (is_used ws w)
unfolding is_used
word_is_empty ws w = twice (get_or ws w 0 == 0)
  where
    twice : (b : Bool) → b ≡ not (not b)
    twice true = refl
    twice false = refl

-- ---- words gone through

pub is_empty : (ws : List ℕ) (w : ℕ) → get_or ws w 0 ≡ 0 → is_used ws w ≡ false
unfolding is_used
is_empty ws w none = ap (λ (b : Bool). not b) (eq-eqb _ 0 none)

pub is_full : (ws : List ℕ) (w : ℕ) → (get_or ws w 0 ≡ 0 → ⊥) → is_used ws w ≡ true
unfolding is_used
is_full ws w some = not_from_false _ (ne_eqb _ 0 some)

pub first_used : (ws : List ℕ) (from w : ℕ) → from ≤ w → (get_or ws w 0 ≡ 0 → ⊥) → ((k : ℕ) → from ≤ k → k < w → is_used ws k ≡ false) → IsNext (is_used ws) from w
first_used ws from w after some before = record {
  after = after;
  is_in = is_full ws w some;
  least = λ k past used. elim (cases_lt k w) [
    | inl below ↦ absurd (false≢true (sym (before k past below) ∙ used))
    | inr above ↦ above
  ];
}

pub next_unused : (ws : List ℕ) (from w : ℕ) → get_or ws w 0 ≡ 0 → ((k : ℕ) → from ≤ k → k < w → is_used ws k ≡ false) → (k : ℕ) → from ≤ k → k < w + 1 → is_used ws k ≡ false
next_unused ws from w none before k past below = elim (cases_eq k w) [
  | inl is ↦ ap (is_used ws) is ∙ is_empty ws w none
  | inr other ↦ before k past (omega arith)
]

pub none_used : (ws : List ℕ) (from w : ℕ) → length ws ≤ w → ((k : ℕ) → from ≤ k → k < w → is_used ws k ≡ false) → NoneFrom (is_used ws) from
none_used ws from w all before k past = elim (cases_lt k w) [
  | inl below ↦ before k past below
  | inr above ↦ is_empty ws k (get_or_past ws k 0 (omega arith))
]

-- ---- from words to numbers

pub same_next : (f g : ℕ → Bool) (from : ℕ) → ((k : ℕ) → f k ≡ g k) → (i : ℕ) → IsNext f from i → IsNext g from i
same_next f g from same i next = record {
  after = next.after;
  is_in = sym (same i) ∙ next.is_in;
  least = λ k past is_in. next.least k past (same k ∙ is_in);
}

pub none_further : (ws : List ℕ) (from : ℕ) → NoneInWord ws from → NoneFrom (is_used ws) (from / 64 + 1) → NoneFrom (has ws) from
none_further ws from here above k past = elim (cases_eq (k / 64) (from / 64)) [
  | inl same ↦ here k past same
  | inr other ↦ empty_word ws (k / 64) k (above (k / 64) (omega arith)) refl
]

pub next_further : (ws : List ℕ) (from w i : ℕ) → NoneInWord ws from → IsNext (is_used ws) (from / 64 + 1) w → IsNextInWord ws (64 * w) i → IsNext (has ws) from i
next_further ws from w i here next first =
    let word : i / 64 ≡ w = omega (arith, first.word) in
    record {
      after = omega (arith, next.after);
      is_in = first.is_in;
      least = λ k past is_in. elim (cases_lt k i) [
        | inr above ↦ above
        | inl below ↦ elim (cases_eq (k / 64) (from / 64)) [
          | inl same ↦ absurd (false≢true (sym (here k past same) ∙ is_in))
          | inr other ↦ elim (cases_Bool (is_used ws (k / 64))) [
            | inl used ↦
                let at : w ≤ k / 64 = next.least (k / 64) (omega arith) used in
                absurd (false≢true (sym (first.least k (omega arith) below) ∙ is_in))
            | inr empty ↦ absurd (false≢true (sym (empty_word ws (k / 64) k empty refl) ∙ is_in))
          ]
        ]
      ];
    }

-- a word with a bit that is set is not 0
pub unused_word : (ws : List ℕ) (from : ℕ) → get_or ws (from / 64) 0 / 2 ^ (from % 64) ≡ 0 → from % 64 ≡ 0 → is_used ws (from / 64) ≡ false
unused_word ws from none first =
    is_empty ws (from / 64) (sym (div-one _) ∙ ap (λ (k : ℕ). get_or ws (from / 64) 0 / 2 ^ k) (sym first) ∙ none)

pub unused_past : (ws : List ℕ) (from : ℕ) → length ws ≤ from / 64 → is_used ws (from / 64) ≡ false
unused_past ws from past = is_empty ws (from / 64) (get_or_past ws (from / 64) 0 past)

-- what the two looks at words say together
module _ (ws vs us : List ℕ) (from w : ℕ) (vs_is : vs ≡ ws) (us_is : us ≡ ws) (here : NoneInWord vs from) (next : IsNext (is_used ws) (from / 64 + 1) w) where
  pub next_found : (r : Option ℕ) → IfSome r (IsNextInWord us (64 * w)) → IfSome r (IsNext (has ws) from)
  next_found None found = tt
  next_found (Some i) found =
      next_further ws from w i (subst (λ (xs : List ℕ). NoneInWord xs from) vs_is here) next (subst (λ (xs : List ℕ). IsNextInWord xs (64 * w) i) us_is found)

  pub next_missed : (r : Option ℕ) → IfNone r (64 * w % 64 ≡ 0 → is_used us (64 * w / 64) ≡ false) → IfNone r (NoneFrom (has ws) from)
  next_missed None missed =
      let same : 64 * w / 64 ≡ w = omega arith in
      absurd (false≢true (sym (missed (omega arith)) ∙ ap (λ (k : ℕ). is_used us k) same ∙ ap (λ (xs : List ℕ). is_used xs w) us_is ∙ next.is_in))
  next_missed (Some i) missed = tt

pub below_all : (ws : List ℕ) (from w : ℕ) → IsNext (is_used ws) from w → w < length ws
below_all ws from w next = used_within ws w next.is_in

pub none_at_all : (ws vs : List ℕ) (from : ℕ) → vs ≡ ws → NoneInWord vs from → NoneFrom (is_used ws) (from / 64 + 1) → NoneFrom (has ws) from
none_at_all ws vs from is here above = none_further ws from (subst (λ (xs : List ℕ). NoneInWord xs from) is here) above
