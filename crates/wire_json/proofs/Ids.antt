-- Ids are read as the positions that they are the texts of.
use Rattle.std.proofs.Common.{◌≡◌, ℕ, zero, suc, ◌+◌, ◌-◌, ◌*◌, ◌/◌, ◌%◌, ◌^◌, ◌<◌, ◌&&◌, List, [], ◌∷◌, ◌++◌, Bool, true, false, Option, Some, None, refl, sym, ap, ◌∙◌, arith, inl, inr, append-nil}
use Rattle.std.specs.Prelude.{nat_lt, option_and_then, if◌then◌else◌}
use Rattle.std.specs.Result.{result_ok}
use Rattle.std.specs.Str.{bytes_eq}
use Rattle.std.proofs.lemmas.Bool.{cases_Bool, lt-ltb, le-ltb, ltb-true}
use Rattle.std.proofs.lemmas.Slice.Eq.{bytes_eq-Decides}
use Rattle.std.proofs.Math.Nat.{pow-suc}
use Rattle.base64.specs.Engines.{standard}
use Rattle.base64.specs.GeneralPurpose.{decode_of, decoded_of}
use Rattle.position_core.specs.declared.position.Position.{Position}
use Rattle.value_texts.specs.Id.{IsIdOf, id_bytes, text_of, varint, varint_within}
use Rattle.value_texts.proofs.Ids.{text_decodes}
use Rattle.wire_json.specs.Ids.{id_of, if_id, number_in, numbers_in}

quotient_fits : (most n : ℕ) → n < 128 ^ suc most → n / 128 < 128 ^ most
quotient_fits most n h = omega (arith, rw pow-suc at h)

-- a byte with the top bit set goes before the rest of the number
more_bits : (n : ℕ) (bytes rest : List ℕ) → number_in bytes ≡ Some (n / 128, rest) → number_in ((n % 128 + 128) ∷ bytes) ≡ Some (n, rest)
more_bits n bytes rest is =
    let above : nat_lt (n % 128 + 128) 128 ≡ false = le-ltb (n % 128 + 128) 128 (omega arith) in
    let whole : n % 128 + 128 - 128 + 128 * (n / 128) ≡ n = omega arith in
    rw (above, is, whole) refl

last_bits : (n : ℕ) (rest : List ℕ) → nat_lt n 128 ≡ true → number_in (n ∷ rest) ≡ Some (n, rest)
last_bits n rest low = rw low refl

varint_within_read : (most n : ℕ) (rest : List ℕ) → n < 128 ^ suc most → number_in (varint_within (suc most) n ++ rest) ≡ Some (n, rest)
unfolding varint_within
varint_within_read zero n rest h =
    let low : nat_lt n 128 ≡ true = lt-ltb n 128 (omega arith) in
    rw low (last_bits n rest low)
varint_within_read (suc most) n rest h = elim (cases_Bool (nat_lt n 128)) [
  | inl low ↦ rw low (last_bits n rest low)
  | inr high ↦ rw high (more_bits n (varint_within (suc most) (n / 128) ++ rest) rest (varint_within_read most (n / 128) rest (quotient_fits (suc most) n h)))
]

varint_read : (n : ℕ) (rest : List ℕ) → n < 2 ^ 64 → number_in (varint n ++ rest) ≡ Some (n, rest)
unfolding varint
varint_read n rest fits = varint_within_read 9 n rest (omega arith)

bytes_read : (p : Position) → p.ledger < 2 ^ 64 → p.entry < 2 ^ 64 → numbers_in (id_bytes p) ≡ Some p
bytes_read p ledger entry =
    let second : number_in (varint p.entry) ≡ Some (p.entry, []) = ap number_in (sym (append-nil (varint p.entry))) ∙ varint_read p.entry [] entry in
    rw (varint_read p.ledger (16 ∷ varint p.entry) ledger, second) refl

own_text : (p : Position) → bytes_eq (text_of p) (text_of p) ≡ true
own_text p = (bytes_eq-Decides (text_of p) (text_of p)).1 refl

is_own : (text : List ℕ) (p : Position) → IsIdOf text p → if_id text p ≡ Some p
is_own text p is = rw (is.text_is, lt-ltb p.ledger (2 ^ 64) is.ledger, lt-ltb p.entry (2 ^ 64) is.entry, own_text p) refl

decoded : (text : List ℕ) (p : Position) → text ≡ text_of p → decoded_of standard text ≡ Some (id_bytes p)
unfolding decoded_of
decoded text p is = ap (λ t. result_ok (decode_of standard t)) is ∙ ap result_ok (text_decodes p)

pub id_is_read : (text : List ℕ) (p : Position) → IsIdOf text p → id_of text ≡ Some p
unfolding id_of
id_is_read text p is =
    ap (λ bytes. option_and_then (if_id text) (option_and_then numbers_in bytes)) (decoded text p is.text_is)
    ∙ ap (option_and_then (if_id text)) (bytes_read p is.ledger is.entry) ∙ is_own text p is

is_id_by : (ledger entry same : Bool) (text : List ℕ) (p q : Position) → nat_lt p.ledger (2 ^ 64) ≡ ledger → nat_lt p.entry (2 ^ 64) ≡ entry → bytes_eq (text_of p) text ≡ same
    → (if ledger && entry && same then Some p else None) ≡ Some q → IsIdOf text q
is_id_by true true true text p q ledger entry same is =
    let one : p ≡ q = cc in
    let text_is : text_of p ≡ text = (bytes_eq-Decides (text_of p) text).0 same in
    rw (sym one) (record { ledger = ltb-true p.ledger (2 ^ 64) ledger; entry = ltb-true p.entry (2 ^ 64) entry; text_is = sym text_is })
is_id_by true true false text p q ledger entry same is = absurd (cc)
is_id_by true false same text p q ledger entry e is = absurd (cc)
is_id_by false entry same text p q ledger e f is = absurd (cc)

is_id : (found : Option Position) (text : List ℕ) (q : Position) → option_and_then (if_id text) found ≡ Some q → IsIdOf text q
is_id None text q is = absurd (cc)
is_id (Some p) text q is = is_id_by (nat_lt p.ledger (2 ^ 64)) (nat_lt p.entry (2 ^ 64)) (bytes_eq (text_of p) text) text p q refl refl refl is

pub read_is_id : (text : List ℕ) (q : Position) → id_of text ≡ Some q → IsIdOf text q
unfolding id_of
read_is_id text q is = is_id (option_and_then numbers_in (decoded_of standard text)) text q is

none_found : (found : Option Position) (text : List ℕ) → id_of text ≡ found → ((p : Position) → IsIdOf text p → None ≡ Some p) → None ≡ found
none_found None text is none = refl
none_found (Some p) text is none = none p (read_is_id text p is)

pub none_is_read : (text : List ℕ) → ((p : Position) → IsIdOf text p → None ≡ Some p) → None ≡ id_of text
none_is_read text none = none_found (id_of text) text refl none
