-- What is read of the text of ranges.
use Rattle.std.proofs.Common.{◌≡◌, ℕ, ◌+◌, ◌<◌, ◌≤◌, Bool, true, false, cond, List, [], ◌∷◌, ◌++◌, length, take, drop, Option, Some, None, nat_lt, sym, ◌∙◌, ap, refl, arith, position, get_or, append_assoc, append-nil}
use Rattle.std.specs.Prelude.{◌&&◌}
use Rattle.std.specs.Fmt.{decimal}
use Rattle.std.specs.Str.{bytes_eq}
use Rattle.std.specs.Str.Parse.{digits_value}
use Rattle.std.specs.List.{position_or_len}
use Rattle.std.proofs.lemmas.Fmt.{decimal_is_IsNumeral, decimal_nonempty}
use Rattle.std.proofs.lemmas.Bool.Decides.{nat_tests}
use Rattle.std.proofs.lemmas.List.{at_drop_more, at_drop_all}
use Rattle.std.proofs.lemmas.Slice.Eq.{bytes_eq-Decides}
use Rattle.value_texts.specs.Decimals.{IsNumber}
use Rattle.value_texts.specs.RangesText.{hash_in, is_dash, plain_hash, more_ranges, range_by, range_in, ranges_in}
use Rattle.position_core.specs.declared.ranges.HashRange.{HashRange}
use Rattle.value_texts.specs.declared.ranges_text.LeadingZeros.{LeadingZeros}
use Rattle.value_texts.specs.declared.ranges_text.LeadingZeros.TheVariants.{Allowed, Refused}

-- ---- hashes

its_own : (text : List ℕ) → bytes_eq text text ≡ true
its_own text = (bytes_eq-Decides text text).1 refl

hash_number : (text : List ℕ) (n : ℕ) → IsNumber text n → plain_hash text ≡ cond (nat_lt n 65536) (Some n) None
hash_number text n is =
    let value : digits_value 10 text ≡ n = ap (digits_value 10) is.1 ∙ (decimal_is_IsNumeral n is.0).1 in
    rw (value, ← is.1, its_own text) refl

pub hash_within : (text : List ℕ) (n : ℕ) → IsNumber text n → n ≤ 65535 → plain_hash text ≡ Some n
hash_within text n is within =
    let small : nat_lt n 65536 ≡ true = grind (arith, nat_tests) in
    hash_number text n is ∙ ap (λ b. cond b (Some n) None) small

pub hash_beyond : (text : List ℕ) (n : ℕ) → IsNumber text n → 65535 < n → plain_hash text ≡ None
hash_beyond text n is beyond =
    let large : nat_lt n 65536 ≡ false = grind (arith, nat_tests) in
    hash_number text n is ∙ ap (λ b. cond b (Some n) None) large

pub no_hash : (text : List ℕ) → ((n : ℕ) → IsNumber text n → ⊥) → plain_hash text ≡ None
no_hash text none = by (bytes_eq text (decimal (digits_value 10 text))) (nat_lt (digits_value 10 text) 65536) refl refl
  where
    by : (b c : Bool) → bytes_eq text (decimal (digits_value 10 text)) ≡ b → nat_lt (digits_value 10 text) 65536 ≡ c → cond (b && c) (Some (digits_value 10 text)) None ≡ None
    by false c same small = refl
    by true false same small = refl
    by true true same small =
        let is : text ≡ decimal (digits_value 10 text) = (bytes_eq-Decides text (decimal (digits_value 10 text))).0 same in
        let below : digits_value 10 text < 65536 = grind (arith, nat_tests) in
        absurd (none (digits_value 10 text) (omega (arith, below), is))

-- ---- ranges

no_last : (first : Option ℕ) → range_by first None ≡ None
no_last (Some first) = refl
no_last None = refl

no_hash_here : (zeros : LeadingZeros) → hash_in zeros [] ≡ None
no_hash_here Allowed = no_hash [] (λ n is. omega (arith, decimal_nonempty n is.0, ap length is.1))
no_hash_here Refused = no_hash [] (λ n is. omega (arith, decimal_nonempty n is.0, ap length is.1))

nowhere : (place size : ℕ) → cond (nat_lt place size) (Some place) None ≡ None → size ≤ place
nowhere place size e = grind (arith, nat_tests)

pub no_dash : (zeros : LeadingZeros) (text : List ℕ) → position is_dash text ≡ None → range_in zeros text ≡ None
no_dash zeros text e =
    let past : length text ≤ position_or_len is_dash text = nowhere _ _ e in
    let behind : drop (position_or_len is_dash text + 1) text ≡ [] = at_drop_all (λ (xs : List ℕ). xs) text (position_or_len is_dash text + 1) (omega (arith, past)) in
    ap (λ (xs : List ℕ). range_by (hash_in zeros (take (position_or_len is_dash text) text)) (hash_in zeros xs)) behind
    ∙ ap (range_by (hash_in zeros (take (position_or_len is_dash text) text))) (no_hash_here zeros)
    ∙ no_last (hash_in zeros (take (position_or_len is_dash text) text))

pub dash_there : (zeros : LeadingZeros) (text : List ℕ) (i : ℕ) → position is_dash text ≡ Some i → range_in zeros text ≡ range_by (hash_in zeros (take i text)) (hash_in zeros (drop (i + 1) text))
dash_there zeros text i e = ap (λ (p : ℕ). range_by (hash_in zeros (take p text)) (hash_in zeros (drop (p + 1) text))) (there (nat_lt (position_or_len is_dash text) (length text)) e)
  where
    there : (b : Bool) → cond b (Some (position_or_len is_dash text)) None ≡ Some i → position_or_len is_dash text ≡ i
    there true e = cc e
    there false e = cc e

-- ---- the ranges of the parts that were read

abbrev after : List HashRange → Option (List HashRange) → Option (List HashRange)
after given (Some rs) = Some (given ++ rs)
after given None = None

-- these are the ranges of the first so many parts
pub record AreOf (zeros : LeadingZeros) (parts : List (List ℕ)) (n : ℕ) (given : List HashRange) : Type 0 where
  pub whole : ranges_in zeros parts ≡ after given (ranges_in zeros (drop n parts))

pub none_yet : (zeros : LeadingZeros) (parts : List (List ℕ)) → AreOf zeros parts 0 []
none_yet zeros parts = record { whole = all (ranges_in zeros parts) }
  where
    all : (found : Option (List HashRange)) → found ≡ after [] found
    all (Some rs) = refl
    all None = refl

pub one_more : (zeros : LeadingZeros) (parts : List (List ℕ)) (n : ℕ) (given : List HashRange) (part : List ℕ) (r : HashRange) → AreOf zeros parts n given → n < length parts → part ≡ get_or parts n part → range_in zeros part ≡ Some r → AreOf zeros parts (n + 1) (given ++ r ∷ [])
one_more zeros parts n given part r so below here is = record { whole = so.whole ∙ ap (after given) next ∙ joined (ranges_in zeros (drop (n + 1) parts)) }
  where
    next : ranges_in zeros (drop n parts) ≡ more_ranges (Some r) (ranges_in zeros (drop (n + 1) parts))
    next = at_drop_more (ranges_in zeros) parts n part below ∙ ap (λ (p : List ℕ). more_ranges (range_in zeros p) (ranges_in zeros (drop (n + 1) parts))) (sym here) ∙ ap (λ o. more_ranges o (ranges_in zeros (drop (n + 1) parts))) is

    joined : (found : Option (List HashRange)) → after given (more_ranges (Some r) found) ≡ after (given ++ r ∷ []) found
    joined (Some rs) = ap Some (sym (append_assoc given (r ∷ []) rs))
    joined None = refl

pub bad_part : (zeros : LeadingZeros) (parts : List (List ℕ)) (n : ℕ) (given : List HashRange) (part : List ℕ) → AreOf zeros parts n given → n < length parts → part ≡ get_or parts n part → range_in zeros part ≡ None → ranges_in zeros parts ≡ None
bad_part zeros parts n given part so below here is =
    so.whole ∙ ap (after given) (at_drop_more (ranges_in zeros) parts n part below ∙ ap (λ (p : List ℕ). more_ranges (range_in zeros p) (ranges_in zeros (drop (n + 1) parts))) (sym here) ∙ ap (λ o. more_ranges o (ranges_in zeros (drop (n + 1) parts))) is)

pub all_read : (zeros : LeadingZeros) (parts : List (List ℕ)) (n : ℕ) (given : List HashRange) → AreOf zeros parts n given → length parts ≤ n → ranges_in zeros parts ≡ Some given
all_read zeros parts n given so all =
    so.whole ∙ ap (after given) (at_drop_all (ranges_in zeros) parts n all) ∙ ap Some (append-nil given)
