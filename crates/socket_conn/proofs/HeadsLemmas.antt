-- A request's head: its texts, and the head that asks for a WebSocket.
use Rattle.std.proofs.Common.{◌≡◌, [], ◌++◌, ℕ, List, Bool, true, false, Result, Ok, Err, length, take, drop, refl, sym, subst, ap, ◌∙◌}
use Rattle.std.specs.Str.{IsUtf8, is_utf8}
use Rattle.std.proofs.Math.Seq.{take-append_seam}
use Rattle.std.proofs.lemmas.Str.{IsUtf8-from_is_utf8, is_utf8-from_IsUtf8}
use Rattle.httparse.specs.Grammar.{print_request, ReadsRequest}
use Rattle.httparse.specs.Spans.{IsRequestOf, span_bytes}
use Rattle.httparse.specs.declared.spans.HeaderSpan.{HeaderSpan}
use Rattle.httparse.specs.declared.spans.RequestSpans.{RequestSpans}
use Rattle.websocket.specs.Handshake.{Answers, IsValidKey, accept_key_of, requested_key}
use Rattle.websocket.specs.Headers.{Fields, fields_of}
use Rattle.websocket.specs.declared.handshake.failure.HandshakeError.{HandshakeError}
use Rattle.socket_conn.specs.Heads.{IsAskedBy, IsUpgrade, accepting, asked_key, fields_in, is_sound, text_or_empty}
use Rattle.socket_conn.specs.declared.asked.Asked.{Asked}
use Rattle.socket_conn.specs.declared.head.Upgrade.{Upgrade}

pub text : (bytes t : List ℕ) → IsUtf8 bytes → t ≡ bytes → t ≡ text_or_empty bytes
text bytes t is h = rw (is_utf8-from_IsUtf8 bytes is) h

no_true : (bytes : List ℕ) (b : Bool) → is_utf8 bytes ≡ b → ¬ (IsUtf8 bytes) → b ≡ false
no_true bytes true is no_text = absurd (no_text (IsUtf8-from_is_utf8 bytes is))
no_true bytes false is no_text = refl

pub no_text : (bytes t : List ℕ) → ¬ (IsUtf8 bytes) → t ≡ [] → t ≡ text_or_empty bytes
no_text bytes t other h = rw (no_true bytes _ refl other) h

-- the key that is answered
answered_key : (accept : List ℕ) (r : Result (List ℕ) HandshakeError) → Answers (Ok accept) r
    → (key : List ℕ) × (r ≡ Ok key) × IsValidKey key × (accept ≡ accept_key_of key)
answered_key accept (Ok key) answers = (key, refl, answers.0, answers.1)
answered_key accept (Err e) answers = absurd (cc answers)

-- the first bytes, as many as the head has
front : (bytes head rest : List ℕ) (len : ℕ) → bytes ≡ head ++ rest → len ≡ length head → take len bytes ≡ head
front bytes head rest len is long = rw (is, long) (take-append_seam head rest)

-- the head that a parser found is one that asks for a WebSocket, by what the spans cover
pub upgrade : (bytes : List ℕ) (spans : List HeaderSpan) (found : RequestSpans) (path accept : List ℕ) (fields : Fields) (asked : Asked) (u : Upgrade)
    → IsRequestOf bytes spans found → path ≡ span_bytes bytes found.path → fields ≡ fields_of bytes (take found.headers spans)
    → is_sound (take found.len bytes) fields ≡ true
    → Answers (Ok accept) (requested_key (span_bytes bytes found.method) found.version fields)
    → IsAskedBy path fields asked → (u.asked ≡ asked) × (u.answer.items ≡ accepting accept) × (u.len ≡ found.len) → IsUpgrade bytes u
upgrade bytes spans found path accept fields asked u (head, at) is_path are_fields sound answers asks made =
    let same : fields ≡ fields_in head = are_fields ∙ at.fields in
    let target : path ≡ head.target = is_path ∙ at.path in
    let whole : take found.len bytes ≡ print_request head = front bytes (print_request head) _ found.len at.reads.1 at.len in
    let key_is : requested_key (span_bytes bytes found.method) found.version fields ≡ asked_key head = cc (at.method, at.version, same) in
    let key = answered_key accept (asked_key head) (subst (Answers (Ok accept)) key_is answers) in
    record {
      head = head;
      reads = subst (λ n. ReadsRequest bytes head (drop n bytes)) (sym made.2) at.reads;
      sound = subst (λ b. is_sound b (fields_in head) ≡ true) whole (subst (λ f. is_sound (take found.len bytes) f ≡ true) same sound);
      key = key.0;
      asks = key.1;
      valid = key.2;
      answer = made.1 ∙ ap accepting key.3;
      asked = subst (λ a. IsAskedBy head.target (fields_in head) a) (sym made.0) (subst (λ f. IsAskedBy head.target f asked) same (subst (λ p. IsAskedBy p fields asked) target asks));
    }
