-- The bytes and the text of a position: each determines it, and nothing else decodes to them.
use Rattle.std.proofs.Common.{◌≡◌, ℕ, zero, suc, ◌<◌, ◌≤◌, ◌^◌, List, [], ◌∷◌, ◌++◌, length, Option, IfSome, IfOk, refl, sym, ap, ◌∙◌, arith, true, Some, None, Ok, Err}
use Rattle.std.specs.Option.{ok_or}
use Rattle.std.proofs.lemmas.List.{append-nil, length-append, length-replicate}
use Rattle.base64.specs.Engines.{standard}
use Rattle.base64.specs.GeneralPurpose.{IsBytes, decode_of}
use Rattle.base64.specs.Rfc4648.{encode}
use Rattle.base64.specs.declared.decode.DecodeError.{DecodeError}
use Rattle.base64.proofs.EngineFacts.{decode_of-encode_of, decode_of_strict}
use Rattle.base64.proofs.RoundTrip.{length-encode_symbols}
use Rattle.position_core.specs.declared.position.Position.{Position}
use Rattle.position_core.specs.declared.fault.Fault.TheVariants.{BadId}
use Rattle.value_texts.specs.Id.{varint, id_bytes, text_of, IsIdOf}
use Rattle.value_texts.proofs.Varint.{varint_same, varint_short, varint_bytes}

-- what begins with the ledger's field and is an id
pub first_field_same : (p : Position) (ledger : ℕ) (rest : List ℕ) → p.ledger < 2 ^ 64 → ledger < 2 ^ 64 → 8 ∷ (varint ledger ++ rest) ≡ id_bytes p
    → (ledger ≡ p.ledger) × (rest ≡ 16 ∷ varint p.entry)
first_field_same p ledger rest fits small e = varint_same ledger p.ledger rest (16 ∷ varint p.entry) small fits (cc)

-- what begins with both fields and is an id
pub fields_same : (p : Position) (ledger entry : ℕ) (rest : List ℕ) → p.ledger < 2 ^ 64 → p.entry < 2 ^ 64 → ledger < 2 ^ 64 → entry < 2 ^ 64
    → 8 ∷ (varint ledger ++ 16 ∷ (varint entry ++ rest)) ≡ id_bytes p → (ledger ≡ p.ledger) × (entry ≡ p.entry) × (rest ≡ [])
fields_same p ledger entry rest fits_ledger fits_entry small_ledger small_entry e =
    let first = first_field_same p ledger (16 ∷ (varint entry ++ rest)) fits_ledger small_ledger e in
    let tail : varint entry ++ rest ≡ varint p.entry = cc in
    let second = varint_same entry p.entry rest [] small_entry fits_entry (tail ∙ sym (append-nil (varint p.entry))) in
    (first.0, second.0, second.1)

pub position_is : (p : Position) (ledger entry : ℕ) → ledger ≡ p.ledger → entry ≡ p.entry → record { ledger = ledger; entry = entry } ≡ p
position_is p ledger entry same_ledger same_entry = rw (same_ledger, same_entry) refl

pub id_bytes_same : (p q : Position) → p.ledger < 2 ^ 64 → p.entry < 2 ^ 64 → q.ledger < 2 ^ 64 → q.entry < 2 ^ 64 → id_bytes p ≡ id_bytes q → p ≡ q
id_bytes_same p q pl pe ql qe e =
    let whole : 8 ∷ (varint p.ledger ++ 16 ∷ (varint p.entry ++ [])) ≡ id_bytes q = rw (append-nil (varint p.entry)) e in
    let same = fields_same q p.ledger p.entry [] ql qe pl pe whole in
    position_is q p.ledger p.entry same.0 same.1

bytes_append : (xs ys : List ℕ) → IsBytes xs → IsBytes ys → IsBytes (xs ++ ys)
bytes_append [] ys front back i = back i
bytes_append (x ∷ xs) ys front back zero = front 0
bytes_append (x ∷ xs) ys front back (suc i) = bytes_append xs ys (λ k. front (suc k)) back i

bytes_more : (x : ℕ) (xs : List ℕ) → x < 256 → IsBytes xs → IsBytes (x ∷ xs)
bytes_more x xs small others zero = small
bytes_more x xs small others (suc i) = others i

pub id_bytes_are_bytes : (p : Position) → IsBytes (id_bytes p)
id_bytes_are_bytes p =
    bytes_more 8 (varint p.ledger ++ 16 ∷ varint p.entry) (omega arith)
    (bytes_append (varint p.ledger) (16 ∷ varint p.entry) (varint_bytes p.ledger) (bytes_more 16 (varint p.entry) (omega arith) (varint_bytes p.entry)))

encoding_short : (symbols message : List ℕ) (pad : ℕ) → length message ≤ 22 → length (encode symbols pad true message) ≤ 32
encoding_short symbols message pad short = rw (length-append, length-encode_symbols, length-replicate) (omega arith)

-- the one text has at most 32 bytes
pub text_short : (p : Position) → length (text_of p) ≤ 32
unfolding text_of
text_short p =
    encoding_short _ (id_bytes p) _ (omega (arith, varint_short p.ledger, varint_short p.entry, length-append (varint p.ledger) (16 ∷ varint p.entry)))

pub text_decodes : (p : Position) → decode_of standard (text_of p) ≡ Ok (id_bytes p)
unfolding text_of
text_decodes p = decode_of-encode_of standard (id_bytes p) refl (id_bytes_are_bytes p)

decoded_text : (p : Position) (text : List ℕ) → IsBytes text → decode_of standard text ≡ Ok (id_bytes p) → text ≡ text_of p
unfolding text_of
decoded_text p text bytes ok = decode_of_strict standard text (id_bytes p) (refl, refl) bytes ok

pub text_not_refused : (p : Position) (text : List ℕ) (error : DecodeError) → text ≡ text_of p → decode_of standard text ≡ Err error → ⊥
text_not_refused p text error e refused =
    let both = sym refused ∙ ap (decode_of standard) e ∙ text_decodes p in
    cc both

-- what was decoded and read is the position whose id the text is
pub read_is_text : (text bytes : List ℕ) (found : Option Position) → IsBytes text → decode_of standard text ≡ Ok bytes → IfSome found (λ p. bytes ≡ id_bytes p) → IfSome found (λ p. (p.ledger < 2 ^ 64) × (p.entry < 2 ^ 64))
    → IfOk (ok_or found BadId) (IsIdOf text)
read_is_text text bytes None are_bytes decoded read fits = tt
read_is_text text bytes (Some p) are_bytes decoded read fits = record { ledger = fits.0; entry = fits.1; text_is = decoded_text p text are_bytes (decoded ∙ ap Ok read) }

-- the text of a position is read as the position
pub text_is_read : (text bytes : List ℕ) (found : Option Position) (p : Position) → text ≡ text_of p → decode_of standard text ≡ Ok bytes → (bytes ≡ id_bytes p → found ≡ Some p)
    → ok_or found BadId ≡ Ok p
text_is_read text bytes found p e decoded read =
    let both = sym decoded ∙ ap (decode_of standard) e ∙ text_decodes p in
    rw (read (cc both)) refl

-- a text is the id of one position
pub one_id : (text : List ℕ) (p q : Position) → IsIdOf text p → IsIdOf text q → p ≡ q
one_id text p q is_p is_q =
    let both = sym (text_decodes p) ∙ ap (decode_of standard) (sym is_p.text_is ∙ is_q.text_is) ∙ text_decodes q in
    id_bytes_same p q is_p.ledger is_p.entry is_q.ledger is_q.entry (cc both)
