-- The numbers of a query: decimal digits, with any number of leading zeros.
use Rattle.std.specs.Prelude.{ℕ, ◌==◌, ◌&&◌, not, nat_le, List, length, ℤ, pos, negsuc, codes, Option, Some, None, option_and_then, if◌then◌else◌}
use Rattle.std.specs.List.{list_all}
use Rattle.std.specs.Char.{is_ascii_digit}
use Rattle.std.specs.Str.Parse.{digits_value}
use Rattle.endpoint_core.specs.Paths.{after}

-- one digit or more, and nothing else
abbrev pub number_of : List ℕ → Option ℕ
number_of text = if not (length text == 0) && list_all is_ascii_digit text then Some (digits_value 10 text) else None

abbrev pub if_up_to : ℕ → ℕ → Option ℕ
if_up_to most n = if nat_le n most then Some n else None

-- a number that is not above the limit
abbrev pub number_up_to : ℕ → List ℕ → Option ℕ
number_up_to most text = option_and_then (if_up_to most) (number_of text)

-- up to 2^62
abbrev pub positive_base : ℕ → Option ℤ
positive_base n = if nat_le n 4611686018427387904 then Some (pos n) else None

-- after a `-`, 0 is 0, 1 is -1, and the others are too small
abbrev pub negative_base : ℕ → Option ℤ
negative_base n = if n == 0 then Some (pos 0) else (if n == 1 then Some (negsuc 0) else None)

abbrev pub base_by : Option (List ℕ) → List ℕ → Option ℤ
base_by (Some digits) text = option_and_then negative_base (number_of digits)
base_by None text = option_and_then positive_base (number_of text)

-- the sequence number that a producer begins after, from -1 to 2^62
abbrev pub base_of : List ℕ → Option ℤ
base_of text = base_by (after (codes "-") text) text
