-- Bytes as texts.
use Rattle.std.specs.Prelude.{ℕ, List, Option}
use Rattle.std.specs.Option.{option_or}
use Rattle.base64.specs.GeneralPurpose.{decoded_of}
use Rattle.base64.specs.Engines.{standard, standard_no_pad}

-- the bytes whose base64 the text is, with all its padding or none
abbrev pub bytes_of : List ℕ → Option (List ℕ)
bytes_of text = option_or (decoded_of standard text) (decoded_of standard_no_pad text)
