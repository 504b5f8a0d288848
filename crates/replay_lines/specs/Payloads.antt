-- Payloads as words: padded base64, and `-` for an empty one.
use Rattle.std.specs.Prelude.{◌≡◌, ℕ, ◌≤◌, List, [], ◌∷◌, length, ◌⊎◌, codes}
use Rattle.base64.specs.GeneralPurpose.{encode_of, IsBytes}
use Rattle.base64.specs.Engines.{standard}

abbrev pub payload_text : List ℕ → List ℕ
payload_text [] = codes "-"
payload_text (byte ∷ bytes) = encode_of standard (byte ∷ bytes)

-- the word is the payload's
unfoldable pub IsPayload : List ℕ → List ℕ → Type 0
IsPayload word bytes =
    ((word ≡ codes "-") × (bytes ≡ []))
    ⊎ ((word ≡ codes "-" → ⊥) × IsBytes bytes × (word ≡ encode_of standard bytes) × (length bytes ≤ 1048576))
