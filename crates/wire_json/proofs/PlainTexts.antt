-- Texts that need no escape: ids, payloads, messages and numbers of errors.
use Rattle.std.proofs.Common.{◌≡◌, ℕ, zero, suc, ◌+◌, ◌*◌, ◌/◌, ◌%◌, ◌<◌, List, [], ◌∷◌, ◌++◌, length, replicate, get_or, Bool, true, false, true≢false, not, refl, sym, ap, ◌∙◌, arith}
use Rattle.std.specs.Prelude.{codes, slice_index}
use Rattle.std.specs.Fmt.{decimal}
use Rattle.std.proofs.lemmas.Fmt.{decimal_digit}
use Rattle.wire_json.specs.Answers.{message_of, number_of}
use Rattle.wire_json.specs.declared.answers.SendError.{SendError}
use Rattle.wire_json.specs.declared.answers.SendError.TheVariants.{CreateProducer, Subscribe, Deserialize, Serialize, Authenticate, Authorize, PayloadEncoding, Unknown}
use Rattle.std.specs.List.{list_all}
use Rattle.std.proofs.lemmas.Grind.{flat_map-append}
use Rattle.std.proofs.lemmas.List.Folds.{list_all_at}
use Rattle.base64.specs.Engines.{standard}
use Rattle.base64.specs.GeneralPurpose.{IsBytes, encode_of}
use Rattle.base64.specs.Rfc4648.{encode, encode_symbols, padding_len}
use Rattle.json.specs.Print.{escape, escape_byte}
use Rattle.position_core.specs.declared.position.Position.{Position}
use Rattle.value_texts.specs.Id.{id_bytes, text_of}
use Rattle.json_values.specs.Escapes.{needs_escape}
use Rattle.json_values.proofs.Escapes.{cons_plain, plain_byte}
use Rattle.value_texts.proofs.Ids.{id_bytes_are_bytes}

abbrev IsPlainTable : List ℕ → Type 0
IsPlainTable t = (i : ℕ) → i < 64 → needs_escape (slice_index t i) ≡ false

plain_symbols : (t m : List ℕ) → IsPlainTable t → IsBytes m → escape (encode_symbols t m) ≡ encode_symbols t m
unfolding encode_symbols
plain_symbols t [] plain bytes = refl
plain_symbols t (a ∷ []) plain bytes =
    let a_byte : a < 256 = bytes 0 in
    rw (plain_byte (slice_index t (a / 4)) (plain (a / 4) (omega arith)), plain_byte (slice_index t (a % 4 * 16)) (plain (a % 4 * 16) (omega arith))) refl
plain_symbols t (a ∷ b ∷ []) plain bytes =
    let a_byte : a < 256 = bytes 0 in
    let b_byte : b < 256 = bytes 1 in
    rw (plain_byte (slice_index t (a / 4)) (plain (a / 4) (omega arith)), plain_byte (slice_index t (a % 4 * 16 + b / 16)) (plain (a % 4 * 16 + b / 16) (omega arith)), plain_byte (slice_index t (b % 16 * 4)) (plain (b % 16 * 4) (omega arith))) refl
plain_symbols t (a ∷ b ∷ c ∷ rest) plain bytes =
    let a_byte : a < 256 = bytes 0 in
    let b_byte : b < 256 = bytes 1 in
    let c_byte : c < 256 = bytes 2 in
    let others : escape (encode_symbols t rest) ≡ encode_symbols t rest = plain_symbols t rest plain (λ i. bytes (suc (suc (suc i)))) in
    rw (plain_byte (slice_index t (a / 4)) (plain (a / 4) (omega arith)), plain_byte (slice_index t (a % 4 * 16 + b / 16)) (plain (a % 4 * 16 + b / 16) (omega arith)), plain_byte (slice_index t (b % 16 * 4 + c / 64)) (plain (b % 16 * 4 + c / 64) (omega arith)), plain_byte (slice_index t (c % 64)) (plain (c % 64) (omega arith)), others) refl

plain_padding : (n : ℕ) → escape (replicate n 61) ≡ replicate n 61
plain_padding zero = refl
plain_padding (suc n) = cons_plain 61 (replicate n 61) (replicate n 61) refl (plain_padding n)

plain_encoding : (t m : List ℕ) → IsPlainTable t → IsBytes m → escape (encode t 61 true m) ≡ encode t 61 true m
plain_encoding t m plain bytes =
    flat_map-append escape_byte (encode_symbols t m) (replicate (padding_len (length m)) 61) ∙ rw (plain_symbols t m plain bytes, plain_padding (padding_len (length m))) refl

plain_if_all : (special : Bool) (t : List ℕ) (i : ℕ) → list_all (λ b. not (needs_escape b)) t ≡ true → i < length t → needs_escape (get_or t i 0) ≡ special → special ≡ false
plain_if_all true t i all within is =
    let some = list_all_at (λ (b : ℕ). not (needs_escape b)) t i 0 within (ap not is) in
    absurd (true≢false (sym all ∙ some))
plain_if_all false t i all within is = refl

all_plain_at : (t : List ℕ) (i : ℕ) → list_all (λ b. not (needs_escape b)) t ≡ true → i < length t → needs_escape (slice_index t i) ≡ false
all_plain_at t i all within = plain_if_all (needs_escape (get_or t i 0)) t i all within refl

plain_table : IsPlainTable standard.encode_table
plain_table i within = all_plain_at standard.encode_table i refl within

pub plain_id : (p : Position) → escape (text_of p) ≡ text_of p
unfolding text_of
plain_id p = plain_encoding standard.encode_table (id_bytes p) plain_table (id_bytes_are_bytes p)

pub plain_payload : (bytes : List ℕ) → IsBytes bytes → escape (encode_of standard bytes) ≡ encode_of standard bytes
plain_payload bytes are = plain_encoding standard.encode_table bytes plain_table are

pub plain_message : (error : SendError) → escape (message_of error) ≡ message_of error
unfolding escape_byte
plain_message CreateProducer = refl
plain_message Subscribe = refl
plain_message Deserialize = refl
plain_message Serialize = refl
plain_message Authenticate = refl
plain_message Authorize = refl
plain_message PayloadEncoding = refl
plain_message Unknown = refl

pub plain_number : (error : SendError) → escape (codes "send-error:" ++ decimal (number_of error)) ≡ codes "send-error:" ++ decimal (number_of error)
unfolding escape_byte
plain_number CreateProducer = rw (decimal_digit 1 (omega arith)) refl
plain_number Subscribe = rw (decimal_digit 2 (omega arith)) refl
plain_number Deserialize = rw (decimal_digit 3 (omega arith)) refl
plain_number Serialize = rw (decimal_digit 4 (omega arith)) refl
plain_number Authenticate = rw (decimal_digit 5 (omega arith)) refl
plain_number Authorize = rw (decimal_digit 6 (omega arith)) refl
plain_number PayloadEncoding = rw (decimal_digit 7 (omega arith)) refl
plain_number Unknown = rw (decimal_digit 8 (omega arith)) refl
