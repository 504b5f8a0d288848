-- Base64 with its padding, and without.
use Rattle.std.proofs.Common.{◌≡◌, ◌⊎◌, inl, inr, ℕ, ◌+◌, List, length, Option, Some, None, true, false, Result, Ok, Err, refl, sym, ap, ◌∙◌, arith}
use Rattle.std.specs.Option.{option_or}
use Rattle.std.specs.Result.{result_ok}
use Rattle.std.proofs.lemmas.List.{append-nil, length-append, length-replicate}
use Rattle.base64.specs.Engines.{standard, standard_no_pad}
use Rattle.base64.specs.GeneralPurpose.{IsBytes, IsConsistent, IsStrict, decode_of, decoded_of, encode_of}
use Rattle.base64.specs.Rfc4648.{encode, padding_len, unpadded_len}
use Rattle.base64.proofs.EngineFacts.{decode_of-encode_of, decode_of_strict}
use Rattle.base64.proofs.RoundTrip.{length-encode_symbols}
use Rattle.base64.specs.declared.engine.general_purpose.GeneralPurpose.{GeneralPurpose}
use Rattle.json_values.specs.Laws.{PayloadsAreBase64}
use Rattle.json_values.specs.Bytes.{bytes_of}

was_ok : {E : Type 0} (r : Result (List ℕ) E) (b : List ℕ) → result_ok r ≡ Some b → r ≡ Ok b
was_ok (Ok a) b e = cc
was_ok (Err x) b e = absurd (cc)

decoded_is : (e : GeneralPurpose) (text b : List ℕ) → IsStrict e → IsBytes text → decoded_of e text ≡ Some b → text ≡ encode_of e b
unfolding decoded_of
decoded_is e text b strict bytes is = decode_of_strict e text b strict bytes (was_ok (decode_of e text) b is)

pub decodes : (e : GeneralPurpose) (text b : List ℕ) → IsConsistent e → IsBytes b → text ≡ encode_of e b → decoded_of e text ≡ Some b
unfolding decoded_of
decodes e text b consistent bytes is = ap (λ t. result_ok (decode_of e t)) is ∙ ap result_ok (decode_of-encode_of e b consistent bytes)

no_padding : (n m : ℕ) → unpadded_len n ≡ unpadded_len m + padding_len m → padding_len n ≡ 0
no_padding n m e = omega arith

lengths : (t : List ℕ) (pad : ℕ) (b c : List ℕ) → encode t pad false b ≡ encode t pad true c → unpadded_len (length b) ≡ unpadded_len (length c) + padding_len (length c)
lengths t pad b c e =
    let l = simp (append-nil, length-append, length-encode_symbols, length-replicate) at (ap length e) in
    omega (arith, l)

padded_too : (t : List ℕ) (pad : ℕ) (b c : List ℕ) → encode t pad false b ≡ encode t pad true c → encode t pad false b ≡ encode t pad true b
padded_too t pad b c e = rw (no_padding (length b) (length c) (lengths t pad b c e)) refl

either_decoded : (first second : Option (List ℕ)) (b : List ℕ) → option_or first second ≡ Some b → (first ≡ Some b) ⊎ (second ≡ Some b)
either_decoded None second b e = inr e
either_decoded (Some a) second b e = inl e

-- where the text without padding decodes, and the text with padding decodes to the same or not at all
whole_decoded : (first second : Option (List ℕ)) (b : List ℕ) → ((c : List ℕ) → first ≡ Some c → first ≡ Some b) → second ≡ Some b → option_or first second ≡ Some b
whole_decoded None second b same e = e
whole_decoded (Some c) second b same e = same c refl

read_is_base64 : (text b : List ℕ) → IsBytes text → bytes_of text ≡ Some b → (text ≡ encode_of standard b) ⊎ (text ≡ encode_of standard_no_pad b)
read_is_base64 text b bytes is =
    elim (either_decoded (decoded_of standard text) (decoded_of standard_no_pad text) b is) [
      | inl padded ↦ inl (decoded_is standard text b (refl, refl) bytes padded)
      | inr unpadded ↦ inr (decoded_is standard_no_pad text b (refl, refl) bytes unpadded)
    ]

same_with_padding : (text b c : List ℕ) → IsBytes text → IsBytes b → text ≡ encode_of standard_no_pad b → decoded_of standard text ≡ Some c → decoded_of standard text ≡ Some b
same_with_padding text b c bytes bs unpadded padded =
    let both = sym unpadded ∙ decoded_is standard text c (refl, refl) bytes padded in
    decodes standard text b refl bs (unpadded ∙ padded_too standard.encode_table standard.padding.value b c both)

base64_is_read : (text b : List ℕ) → IsBytes text → IsBytes b → (text ≡ encode_of standard b) ⊎ (text ≡ encode_of standard_no_pad b) → bytes_of text ≡ Some b
base64_is_read text b bytes bs (inl padded) = rw (decodes standard text b refl bs padded) refl
base64_is_read text b bytes bs (inr unpadded) =
    whole_decoded (decoded_of standard text) (decoded_of standard_no_pad text) b (λ c padded. same_with_padding text b c bytes bs unpadded padded) (decodes standard_no_pad text b refl bs unpadded)

pub payloads_are_base64 : PayloadsAreBase64
payloads_are_base64 text b bytes bs = (read_is_base64 text b bytes, base64_is_read text b bytes bs)
