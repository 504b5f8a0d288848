-- What holds of the texts of values.
use Rattle.std.specs.Prelude.{◌≡◌, ◌↔◌, ◌⊎◌, List, ℕ, Some}
use Rattle.base64.specs.Engines.{standard, standard_no_pad}
use Rattle.base64.specs.GeneralPurpose.{IsBytes, encode_of}
use Rattle.json_values.specs.Bytes.{bytes_of}

-- a text stands for bytes exactly where it is their base64 with all its padding, or that without any
abbrev pub PayloadsAreBase64 : Type 0
PayloadsAreBase64 =
    (text bytes : List ℕ) → IsBytes text → IsBytes bytes → (bytes_of text ≡ Some bytes) ↔ ((text ≡ encode_of standard bytes) ⊎ (text ≡ encode_of standard_no_pad bytes))
