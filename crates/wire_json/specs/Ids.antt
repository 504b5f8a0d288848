-- Which position a text is the id of.
use Rattle.std.specs.Prelude.{ℕ, ◌+◌, ◌-◌, ◌*◌, ◌^◌, ◌==◌, ◌&&◌, nat_lt, List, [], ◌∷◌, if◌then◌else◌, Option, Some, None, option_map, option_and_then}
use Rattle.std.specs.Str.{bytes_eq}
use Rattle.base64.specs.Engines.{standard}
use Rattle.base64.specs.GeneralPurpose.{decoded_of}
use Rattle.position_core.specs.declared.position.Position.{Position}
use Rattle.value_texts.specs.Id.{text_of}

-- the number that the bytes begin with, 7 bits in each, the lowest first, and the bytes after it
abbrev pub number_in : List ℕ → Option (ℕ × List ℕ)
number_in [] = None
number_in (byte ∷ bytes) = if nat_lt byte 128 then Some (byte, bytes) else option_map (λ high. (byte - 128 + 128 * high.0, high.1)) (number_in bytes)

-- the number after the mark
abbrev pub field_in : ℕ → List ℕ → Option (ℕ × List ℕ)
field_in mark [] = None
field_in mark (byte ∷ bytes) = if byte == mark then number_in bytes else None

-- the ledger after the mark 8, and the entry after the mark 16
abbrev pub numbers_in : List ℕ → Option Position
numbers_in bytes =
    option_and_then (λ ledger. option_map (λ entry. record { ledger = ledger.0; entry = entry.0 }) (field_in 16 ledger.1)) (field_in 8 bytes)

-- the text is the one text of the position, whose numbers have 64 bits
abbrev pub if_id : List ℕ → Position → Option Position
if_id text position = if nat_lt position.ledger (2 ^ 64) && nat_lt position.entry (2 ^ 64) && bytes_eq (text_of position) text then Some position else None

-- the position that the text is the id of
unfoldable pub id_of : List ℕ → Option Position
id_of text = option_and_then (if_id text) (option_and_then numbers_in (decoded_of standard text))
