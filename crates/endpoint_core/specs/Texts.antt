-- Texts that stand percent-encoded in a target.
use Rattle.std.specs.Prelude.{ℕ, List, Option, Some, None, if◌then◌else◌}
use Rattle.std.specs.Str.{is_utf8}
use Rattle.percent_encoding.specs.Percent.{percent_decode}

-- the text that the bytes stand for, where those are UTF-8 after decoding
abbrev pub text_of : List ℕ → Option (List ℕ)
text_of bytes = if is_utf8 (percent_decode bytes) then Some (percent_decode bytes) else None
