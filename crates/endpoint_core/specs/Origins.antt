-- Who may come, by the `Host` and the `Origin` of a request's head.
use Rattle.std.specs.Prelude.{ℕ, ◌+◌, ◌-◌, ◌==◌, ◌&&◌, ◌||◌, nat_le, nat_lt, nat_eq, Bool, true, false, not, List, [], ◌∷◌, length, take, drop, map, codes, Option, Some, None, is_some, if◌then◌else◌}
use Rattle.std.specs.List.{list_all, list_any, starts_with, ends_with, slice_range, slice_split, position_or_len}
use Rattle.std.specs.Option.{option_map_or}
use Rattle.std.specs.Char.{is_ascii_alphanumeric, is_ascii_digit, is_ascii_hexdigit, to_ascii_lowercase}
use Rattle.std.specs.Str.{bytes_eq}
use Rattle.endpoint_core.specs.Numbers.{number_up_to}

-- the hosts that are known by name, and the origins that may come from elsewhere
pub record Listed : Type 0 where
  pub hosts : List (List ℕ)
  pub origins : List (List ℕ)

-- the same text, in letters of either case
abbrev pub is_same : List ℕ → List ℕ → Bool
is_same a b = bytes_eq (map to_ascii_lowercase a) (map to_ascii_lowercase b)

abbrev pub is_among : List (List ℕ) → List ℕ → Bool
is_among texts text = list_any (λ one. is_same one text) texts

-- ---- the host

-- a text in brackets with them, or else what comes before the first `:`
abbrev pub host_of : List ℕ → List ℕ
host_of text =
    if starts_with nat_eq text (codes "[") then take (position_or_len (λ byte. byte == 93) text + 1) text
    else take (position_or_len (λ byte. byte == 58) text) text

-- a number up to 255, in one to three digits
abbrev pub is_octet : List ℕ → Bool
is_octet text = nat_le (length text) 3 && is_some (number_up_to 255 text)

abbrev pub parts_of_address : List ℕ → List (List ℕ)
parts_of_address host = slice_split (λ byte. byte == 46) host

-- an IPv4 address in digits: four such numbers, with dots between them
abbrev pub is_ipv4 : List ℕ → Bool
is_ipv4 host = length (parts_of_address host) == 4 && list_all is_octet (parts_of_address host)

-- a hexadecimal digit, `:` or `.`
abbrev pub is_ipv6_byte : ℕ → Bool
is_ipv6_byte byte = is_ascii_hexdigit byte || byte == 58 || byte == 46

abbrev pub between_ends : List ℕ → List ℕ
between_ends text = slice_range text 1 (length text - 1)

-- an IPv6 address in digits, in brackets
abbrev pub is_ipv6 : List ℕ → Bool
is_ipv6 host =
    starts_with nat_eq host (codes "[") && ends_with nat_eq host (codes "]") && nat_lt 2 (length host)
    && list_all is_ipv6_byte (between_ends host)

-- an address in digits, this machine's own name, or one that is listed
abbrev pub is_known : Listed → List ℕ → Bool
is_known listed host = is_ipv4 host || is_ipv6 host || is_same (codes "localhost") host || is_among listed.hosts host

-- nothing, or `:` and one to five digits
abbrev pub is_port : List ℕ → Bool
is_port text =
    length text == 0
    || (starts_with nat_eq text (codes ":") && nat_lt 1 (length text) && nat_le (length text) 6 && list_all is_ascii_digit (drop 1 text))

-- the host is known, and a port or nothing follows it
abbrev pub is_known_host : Listed → List ℕ → Bool
is_known_host listed text = is_known listed (host_of text) && is_port (drop (length (host_of text)) text)

-- ---- the origin

-- what follows the first `://`
abbrev pub authority_of : List ℕ → Option (List ℕ)
authority_of [] = None
authority_of (byte ∷ rest) =
    if starts_with nat_eq (byte ∷ rest) (codes "://") then Some (drop 3 (byte ∷ rest)) else authority_of rest

-- the origin's host and port are those that were asked for, under whatever scheme
abbrev pub is_own : List ℕ → List ℕ → Bool
is_own host origin = option_map_or (λ authority. is_same authority host) (authority_of origin) false

-- there is no origin, or it is the host's own, or it is listed
abbrev pub may_come_from : Listed → List ℕ → Option (List ℕ) → Bool
may_come_from listed host None = true
may_come_from listed host (Some origin) = is_own host origin || is_among listed.origins origin

-- the host is known, and so is where the request comes from
abbrev pub may_come : Listed → List ℕ → Option (List ℕ) → Bool
may_come listed host origin = is_known_host listed host && may_come_from listed host origin

-- ---- the words

-- the parts between the commas; none in an empty text
abbrev pub parts_of : List ℕ → List (List ℕ)
parts_of text = if length text == 0 then [] else slice_split (λ byte. byte == 44) text

-- a letter or a digit of ASCII, `.`, `-` or `_`
abbrev pub is_host_byte : ℕ → Bool
is_host_byte byte = is_ascii_alphanumeric byte || byte == 46 || byte == 45 || byte == 95

abbrev pub is_host : List ℕ → Bool
is_host text = not (length text == 0) && list_all is_host_byte text

-- something stands on both sides of the first `://`
abbrev pub is_origin : List ℕ → Bool
is_origin text = not (starts_with nat_eq text (codes "://")) && option_map_or (λ authority. not (length authority == 0)) (authority_of text) false

-- what the words list, where each part is a host or an origin
abbrev pub listed_by : List ℕ → List ℕ → Option Listed
listed_by hosts origins =
    if list_all is_host (parts_of hosts) && list_all is_origin (parts_of origins)
    then Some (record { hosts = parts_of hosts; origins = parts_of origins }) else None
