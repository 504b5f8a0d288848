-- Message ids: the standard base64 of the byte 8, the ledger as a varint, the byte 16, the entry as a varint.
use Rattle.std.specs.Prelude.{◌≡◌, ℕ, zero, suc, ◌/◌, ◌+◌, ◌%◌, ◌^◌, ◌<◌, nat_lt, List, [], ◌∷◌, ◌++◌, if◌then◌else◌}
use Rattle.base64.specs.GeneralPurpose.{encode_of}
use Rattle.base64.specs.Engines.{standard}
use Rattle.position_core.specs.declared.position.Position.{Position}

-- the number in at most so many bytes of 7 bits each, the lowest first, all but the last with the top bit set
unfoldable pub varint_within : ℕ → ℕ → List ℕ
varint_within zero n = []
varint_within (suc most) n = if nat_lt n 128 then n ∷ [] else (n % 128 + 128) ∷ varint_within most (n / 128)

-- the shortest varint of a number below 2^64
unfoldable pub varint : ℕ → List ℕ
varint n = varint_within 10 n

abbrev pub id_bytes : Position → List ℕ
id_bytes p = 8 ∷ varint p.ledger ++ 16 ∷ varint p.entry

-- the one text of the position
unfoldable pub text_of : Position → List ℕ
text_of p = encode_of standard (id_bytes p)

-- the text is the id of the position, whose numbers have 64 bits
pub record IsIdOf (text : List ℕ) (p : Position) : Type 0 where
  pub ledger : p.ledger < 2 ^ 64
  pub entry : p.entry < 2 ^ 64
  pub text_is : text ≡ text_of p
