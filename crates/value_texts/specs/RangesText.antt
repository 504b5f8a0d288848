-- The text of ranges: each as its first hash, `-` and its last, in decimal, with `,` between two of them.
use Rattle.std.specs.Prelude.{ℕ, ◌+◌, ◌==◌, nat_le, nat_lt, Bool, ◌&&◌, List, [], ◌∷◌, length, Option, Some, None, option_and_then, if◌then◌else◌}
use Rattle.std.specs.List.{slice_split, before_first, after_first}
use Rattle.std.specs.Str.{bytes_eq}
use Rattle.std.specs.Str.Parse.{digits_value}
use Rattle.std.specs.Fmt.{decimal}
use Rattle.position_core.specs.declared.ranges.HashRange.{HashRange}
use Rattle.value_texts.specs.declared.ranges_text.LeadingZeros.{LeadingZeros}
use Rattle.value_texts.specs.declared.ranges_text.LeadingZeros.TheVariants.{Allowed, Refused}

-- ---- each range

-- the text without the zeros that lead it
abbrev pub without_zeros : List ℕ → List ℕ
without_zeros [] = []
without_zeros (b ∷ []) = b ∷ []
without_zeros (b ∷ c ∷ bs) = if b == 48 then without_zeros (c ∷ bs) else b ∷ c ∷ bs

-- the hash whose decimal text it is
abbrev pub plain_hash : List ℕ → Option ℕ
plain_hash text = if bytes_eq text (decimal (digits_value 10 text)) && nat_lt (digits_value 10 text) 65536 then Some (digits_value 10 text) else None

-- so, where zeros may lead it or may not
abbrev pub hash_in : LeadingZeros → List ℕ → Option ℕ
hash_in Allowed text = plain_hash (without_zeros text)
hash_in Refused text = plain_hash text

abbrev pub range_by : Option ℕ → Option ℕ → Option HashRange
range_by (Some first) (Some last) = Some (record { first = first; last = last })
range_by (Some first) None = None
range_by None last = None

abbrev pub is_dash : ℕ → Bool
is_dash byte = byte == 45

-- two hashes with a dash between them
abbrev pub range_in : LeadingZeros → List ℕ → Option HashRange
range_in zeros text = range_by (hash_in zeros (before_first is_dash text)) (hash_in zeros (after_first is_dash text))

-- ---- all of them

abbrev pub more_ranges : Option HashRange → Option (List HashRange) → Option (List HashRange)
more_ranges (Some r) (Some rs) = Some (r ∷ rs)
more_ranges (Some r) None = None
more_ranges None rs = None

-- the ranges that the parts are
abbrev pub ranges_in : LeadingZeros → List (List ℕ) → Option (List HashRange)
ranges_in zeros [] = Some []
ranges_in zeros (part ∷ parts) = more_ranges (range_in zeros part) (ranges_in zeros parts)

-- the ranges as they stand in the text
abbrev pub ranges_given : LeadingZeros → List ℕ → Option (List HashRange)
ranges_given zeros text = ranges_in zeros (slice_split (λ byte. byte == 44) text)

-- ---- in their order

abbrev pub with_range : HashRange → List HashRange → List HashRange
with_range r [] = r ∷ []
with_range r (q ∷ rs) = if nat_le r.first q.first then r ∷ q ∷ rs else q ∷ with_range r rs

abbrev pub in_order : List HashRange → List HashRange
in_order [] = []
in_order (r ∷ rs) = with_range r (in_order rs)

abbrev pub rises : ℕ → List HashRange → Bool
rises from [] = nat_le from 65536
rises from (r ∷ rs) = nat_le from r.first && nat_le r.first r.last && rises (r.last + 1) rs

-- 1 to 64 ranges, each behind the one before it
abbrev pub are_ranges : List HashRange → Bool
are_ranges ranges = nat_lt 0 (length ranges) && nat_le (length ranges) 64 && rises 0 ranges

abbrev pub if_ranges : List HashRange → Option (List HashRange)
if_ranges ranges = if are_ranges ranges then Some ranges else None

-- the ranges of which it is the text, in whatever order they stand there
abbrev pub ranges_of : LeadingZeros → List ℕ → Option (List HashRange)
ranges_of zeros text = option_and_then (λ given. if_ranges (in_order given)) (ranges_given zeros text)
