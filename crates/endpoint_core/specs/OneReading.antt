-- Targets that every reader takes for one path.
use Rattle.std.specs.Prelude.{ℕ, ◌==◌, ◌&&◌, ◌||◌, nat_lt, Bool, not, List, length, drop, codes}
use Rattle.std.specs.List.{list_all, list_any, before_first}
use Rattle.std.specs.Str.{bytes_eq}
use Rattle.percent_encoding.specs.Percent.{percent_decode}
use Rattle.endpoint_core.specs.Segments.{segments_of}

-- what comes before the first `?`
abbrev pub path_of : List ℕ → List ℕ
path_of target = before_first (λ byte. byte == 63) target

abbrev pub is_dot : ℕ → Bool
is_dot byte = byte == 46

-- `.` or `..`, once the segment is decoded
abbrev pub is_dot_segment : List ℕ → Bool
is_dot_segment segment = bytes_eq (percent_decode segment) (codes ".") || bytes_eq (percent_decode segment) (codes "..")

-- a `/` that shows once the segment is decoded
abbrev pub has_slash_within : List ℕ → Bool
has_slash_within segment = list_any (λ byte. byte == 47) (percent_decode segment)

abbrev pub has_backslash : List ℕ → Bool
has_backslash segment = list_any (λ byte. byte == 92) segment

-- a segment that nobody resolves or cuts in two
abbrev pub is_plain_segment : List ℕ → Bool
is_plain_segment segment = not (is_dot_segment segment) && not (has_slash_within segment) && not (has_backslash segment)

-- nothing between two slashes, or after the last one
abbrev pub has_empty_segment : List ℕ → Bool
has_empty_segment path = list_any (λ segment. length segment == 0) (drop 1 (segments_of path))

-- the path of the first page
abbrev pub is_root : List ℕ → Bool
is_root path = bytes_eq path (codes "/")

-- a control character, or the `#` that a fragment follows
abbrev pub is_stray : ℕ → Bool
is_stray byte = nat_lt byte 32 || byte == 127 || byte == 35

-- whoever reads the target finds the same segments in its path
abbrev pub has_one_reading : List ℕ → Bool
has_one_reading target =
    not (list_any is_stray target)
    && list_all is_plain_segment (segments_of (path_of target))
    && (is_root (path_of target) || not (has_empty_segment (path_of target)))
