-- What the bytes that came say of a request's head.
use Rattle.std.specs.Prelude.{◌≡◌, ◌≢◌, ◌⊎◌, ◌&&◌, ◌||◌, ◌==◌, nat_le, not, if◌then◌else◌, ℕ, Bool, true, false, List, [], ◌∷◌, ◌++◌, drop, length, map, reverse, count_by, codes, IsTrue, IsFalse, Option, Some, None, is_some, bytes_eq, option_map, unwrap_or, Result, Ok, Err, string_bytes}
use Rattle.std.specs.Str.{is_utf8}
use Rattle.httparse.specs.Ascii.{line_feed, carriage_return}
use Rattle.httparse.specs.Grammar.{RequestHead, ReadsRequest, HasNoRequest, MayBecomeRequest, print_request}
use Rattle.httparse.specs.Spans.{RequestOverflows, name_and_value}
use Rattle.websocket.specs.Headers.{Fields, crlf, eq_ignore_case, header_value}
use Rattle.websocket.specs.Handshake.{Answers, IsValidKey, accept_key_of, requested_key}
use Rattle.websocket.specs.declared.handshake.failure.HandshakeError.{HandshakeError}
use Rattle.websocket.specs.declared.handshake.failure.HandshakeError.TheVariants.{MissingSecWebSocketVersionHeader, MissingSecWebSocketKey, InvalidSecWebSocketKey}
use Rattle.socket_conn.specs.declared.asked.Asked.{Asked}
use Rattle.socket_conn.specs.declared.head.Head.{Head}
use Rattle.socket_conn.specs.declared.head.Head.TheVariants.{Partial, Plain, Upgrade as Asks}
use Rattle.socket_conn.specs.declared.head.Request.{Request}
use Rattle.socket_conn.specs.declared.head.Request.TheVariants.{Get, Other, Bad}
use Rattle.socket_conn.specs.declared.head.Upgrade.{Upgrade}

-- the answer that accepts a request for a WebSocket, with the value of its key's answer
abbrev pub accepting : List ℕ → List ℕ
accepting accept =
    codes "HTTP/1.1 101 Switching Protocols" ++ crlf ++ codes "Connection: Upgrade" ++ crlf ++ codes "Upgrade: websocket" ++ crlf
    ++ codes "Sec-WebSocket-Accept: " ++ accept ++ crlf ++ crlf

-- the names and the values of a head's fields
abbrev pub fields_in : RequestHead → Fields
fields_in head = map name_and_value head.fields

-- how many of the fields have the name, whatever the case of its letters
abbrev pub count_of : Fields → List ℕ → ℕ
count_of fields name = count_by (λ field. eq_ignore_case field.0 name) fields

-- the value of the last field with the name
abbrev pub last_value : Fields → List ℕ → Option (List ℕ)
last_value fields name = header_value (reverse fields) name

-- the bytes where they are a text, and an empty one where they are none
abbrev pub text_or_empty : List ℕ → List ℕ
text_or_empty bytes = if is_utf8 bytes then bytes else []

-- the value of the last field with the name, as a text
abbrev pub last_text : Fields → List ℕ → Option (List ℕ)
last_text fields name = option_map text_or_empty (last_value fields name)

-- one of the fields has the name
abbrev pub has_field : Fields → List ℕ → Bool
has_field fields name = is_some (last_value fields name)

-- one of the fields is of those that a proxy writes
abbrev pub has_proxy_field : Fields → Bool
has_proxy_field fields =
    has_field fields (codes "X-Forwarded-For") || has_field fields (codes "X-Forwarded-Host") || has_field fields (codes "X-Real-IP") || has_field fields (codes "Forwarded")

-- whether a value is the word by which a refusal is told by the status of a response
abbrev pub is_status_word : Option (List ℕ) → Bool
is_status_word None = false
is_status_word (Some value) = bytes_eq value (codes "http")

-- the last of the fields of this name has that word
abbrev pub wants_status : Fields → Bool
wants_status fields = is_status_word (last_value fields (codes "X-Refusals"))

-- what a head with this path and these fields asks for, and what it says of where it comes from
pub record IsAskedBy (path : List ℕ) (fields : Fields) (asked : Asked) : Type 0 where
  pub target : string_bytes asked.target ≡ text_or_empty path
  pub host : string_bytes asked.host ≡ unwrap_or (last_text fields (codes "Host")) []
  pub origin : option_map string_bytes asked.origin ≡ last_text fields (codes "Origin")
  pub forwarded_for : option_map string_bytes asked.forwarded_for ≡ last_text fields (codes "X-Forwarded-For")
  pub is_forwarded : asked.is_forwarded ≡ has_proxy_field fields
  pub wants_status : asked.wants_status ≡ wants_status fields

-- in bytes that follow this one, a line ends with LF and has no CR before it
abbrev pub has_bare_lf_after : ℕ → List ℕ → Bool
has_bare_lf_after before [] = false
has_bare_lf_after before (byte ∷ bytes) = (byte == line_feed && not (before == carriage_return)) || has_bare_lf_after byte bytes

-- a line ends with LF and has no CR before it; before the first byte there is none
abbrev pub has_bare_lf : List ℕ → Bool
has_bare_lf = has_bare_lf_after 0

-- a head of these bytes, with these fields, has one Host, at most one Origin and no bare LF (RFC 9112, sections 2.2 and 3.2)
abbrev pub is_sound : List ℕ → Fields → Bool
is_sound bytes fields = count_of fields (codes "Host") == 1 && nat_le (count_of fields (codes "Origin")) 1 && not (has_bare_lf bytes)

-- the same of a head
abbrev pub is_sound_head : RequestHead → Bool
is_sound_head head = is_sound (print_request head) (fields_in head)

-- the key of a head that asks for a WebSocket, or why it does not
abbrev pub asked_key : RequestHead → Result (List ℕ) HandshakeError
asked_key head = requested_key head.method head.minor (fields_in head)

-- the first bytes are a sound head that asks for a WebSocket, and for what the upgrade says; and the answer accepts it
pub record IsUpgrade (bytes : List ℕ) (u : Upgrade) : Type 0 where
  pub head : RequestHead
  pub reads : ReadsRequest bytes head (drop u.len bytes)
  pub sound : IsTrue (is_sound_head head)
  pub key : List ℕ
  pub asks : asked_key head ≡ Ok key
  pub valid : IsValidKey key
  pub answer : u.answer.items ≡ accepting (accept_key_of key)
  pub asked : IsAskedBy head.target (fields_in head) u.asked

-- whether a head that is not accepted for this reason asks for a WebSocket all the same, but not as it has to
abbrev pub asks_amiss : HandshakeError → Bool
asks_amiss MissingSecWebSocketVersionHeader = true
asks_amiss MissingSecWebSocketKey = true
asks_amiss InvalidSecWebSocketKey = true
asks_amiss why = false

-- whether a head of so many bytes, not accepted for this reason, says nothing of a WebSocket and is not too long
abbrev pub is_plain : ℕ → HandshakeError → Bool
is_plain len why = nat_le len 8192 && not (asks_amiss why)

-- for some reason the head is not accepted as one that asks for a WebSocket, and by that reason it is plain, or it is not
abbrev pub IsRefusedAs : RequestHead → Bool → Type 0
IsRefusedAs head plain = (why : HandshakeError) × Answers (Err why) (asked_key head) × (is_plain (length (print_request head)) why ≡ plain)

-- the head is not taken as one that asks for a WebSocket, and is this request
abbrev pub IsOfKind : RequestHead → Request → Type 0
IsOfKind head (Get asked) = (head.method ≡ codes "GET") × IsTrue (is_sound_head head) × IsRefusedAs head true × IsAskedBy head.target (fields_in head) asked
IsOfKind head Other = head.method ≢ codes "GET"
IsOfKind head Bad = (head.method ≡ codes "GET") × (IsFalse (is_sound_head head) ⊎ IsRefusedAs head false)

-- the first bytes are such a head; or a bad request, since whatever follows they are no head with at most 100 header lines
abbrev pub IsRequest : List ℕ → Request → Type 0
IsRequest bytes request =
    ((head : RequestHead) × (rest : List ℕ) × ReadsRequest bytes head rest × IsOfKind head request)
    ⊎ ((request ≡ Bad) × RequestOverflows 100 bytes)

-- no whole request has come, and one may
abbrev pub MayCome : List ℕ → Type 0
MayCome bytes = HasNoRequest bytes × MayBecomeRequest bytes

-- what has come of a head: none yet, but what may become one; or a whole one
abbrev pub IsReadAs : List ℕ → Head → Type 0
IsReadAs bytes Partial = MayCome bytes
IsReadAs bytes (Plain request) = IsRequest bytes request
IsReadAs bytes (Asks u) = IsUpgrade bytes u
