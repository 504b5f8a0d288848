-- What a connection comes to whose request is on its way: the bytes that came, and the session's connection that they open.
use Rattle.std.specs.Prelude.{◌≡◌, ◌⊎◌, ⊤, ℕ, List, [], ◌++◌, drop, Option, Some, true, false}
use Rattle.std.specs.Io.KnownBytes.{Consumes, Keeps}
use Rattle.socket_conn.specs.Heads.{IsRequest, IsUpgrade, MayCome}
use Rattle.socket_conn.specs.State.{begun}
use Rattle.socket_conn.specs.declared.asked.Asked.{Asked}
use Rattle.socket_conn.specs.declared.conn.SocketConn.{SocketConn}
use Rattle.socket_conn.specs.declared.head.Upgrade.{Upgrade}
use Rattle.socket_conn.specs.declared.held.Held.{Held}
use Rattle.socket_conn.specs.declared.shaking.Heard.{Heard}
use Rattle.socket_conn.specs.declared.shaking.Shaken.{Shaken}
use Rattle.socket_conn.specs.declared.shaking.Shaken.TheVariants.{Open, Plain, Waits, Failed}
use Rattle.socket_conn.specs.declared.shaking.Shaking.{Shaking}
use Rattle.tungstenite.specs.Socket.{IsFresh}
use Rattle.websocket.specs.declared.protocol.config.Role.TheVariants.{Server}
use Rattle.websocket.specs.declared.protocol.config.WebSocketConfig.{WebSocketConfig}

-- how many bytes the longest message has that is read
abbrev pub most_message : ℕ
most_message = 4194304

-- no longer message is read, no longer frame, and none without a mask
abbrev pub IsLimited : WebSocketConfig → Type 0
IsLimited config =
    (config.max_message_size ≡ Some most_message) × (config.max_frame_size ≡ Some most_message) × (config.accept_unmasked_frames ≡ false)

module _ {S : Type 0} where
  -- the stream as it is held back: this answer goes out first, once it is let go
  abbrev pub IsHeld : S → List ℕ → Held S → Type 0
  IsHeld stream answer held =
      (held.inner ≡ stream) × (held.first.items ≡ answer) × (held.at ≡ 0) × (held.is_held ≡ true)

  -- the request opens a connection that has just begun, over this stream: the answer waits, and what came behind the head is to be read
  pub record Begins (u : Upgrade) (stream : S) (left : List ℕ) (conn : SocketConn (Held S)) : Type 0 where
    pub begun : conn ≡ begun conn.socket
    pub answer : IsHeld stream u.answer.items conn.socket.stream
    pub rest : conn.socket.input ≡ left
    pub fresh : IsFresh (record conn.socket { input = [] }) conn.socket.stream Server
    pub limits : IsLimited conn.socket.conn.config

  -- the bytes that came are a head that asks for a WebSocket, and for this; and what came behind it
  abbrev pub Opens : List ℕ → S → SocketConn (Held S) → Asked → Type 0
  Opens bytes stream conn asked =
      (u : Upgrade) × IsUpgrade bytes u × (asked ≡ u.asked) × Begins u stream (drop u.len bytes) conn

  -- more bytes came, none maybe, which were kept
  abbrev pub HasHeard : (S → Option (List ℕ)) → Shaking S → Shaking S → Type 0
  HasHeard remaining old new =
      (got : List ℕ) × Consumes (remaining old.stream.inner) (remaining new.stream.inner) got × (new.head.items ≡ old.head.items ++ got)

  -- nothing came, and the stream says that it had nothing to give
  abbrev pub HasHeardNothing : (S → Option (List ℕ)) → Shaking S → Shaking S → Type 0
  HasHeardNothing remaining old new =
      Keeps (remaining old.stream.inner) (remaining new.stream.inner) × (new.head.items ≡ old.head.items) × ¬ (new.stream.dry ≡ old.stream.dry)

  -- what one read came to
  abbrev pub Hears : (S → Option (List ℕ)) → Shaking S → Shaking S → Heard → Type 0
  Hears remaining old new Heard.More = HasHeard remaining old new × (new.stream.dry ≡ old.stream.dry)
  Hears remaining old new Heard.Nothing = HasHeardNothing remaining old new
  Hears remaining old new Heard.Ends = ⊤

  -- what a look at the bytes so far comes to
  abbrev pub Judges : Shaking S → Shaken S → Type 0
  Judges old (Open conn asked) = Opens old.head.items old.stream.inner conn asked
  Judges old (Plain stream request) = (stream ≡ old.stream.inner) × IsRequest old.head.items request
  Judges old (Waits new) = (new ≡ old) × MayCome old.head.items
  Judges old Failed = ⊤

  -- all that came was looked at: nothing did, or it is no whole request yet, and may become one
  abbrev pub HasLooked : Shaking S → Shaking S → Type 0
  HasLooked old new = (new.head.items ≡ old.head.items) ⊎ MayCome new.head.items

  -- how far the connection has come: it is open, or asks for something else, with the bytes that came up to then; or waits for
  -- more, where no whole request has come, and the stream was asked and had nothing to give; or has failed
  abbrev pub Shakes : (S → Option (List ℕ)) → Shaking S → Shaken S → Type 0
  Shakes remaining old (Open conn asked) =
      (last : Shaking S) × HasHeard remaining old last × Opens last.head.items last.stream.inner conn asked
  Shakes remaining old (Plain stream request) =
      (last : Shaking S) × HasHeard remaining old last × (stream ≡ last.stream.inner) × IsRequest last.head.items request
  Shakes remaining old (Waits new) = HasHeard remaining old new × ¬ (new.stream.dry ≡ old.stream.dry) × HasLooked old new
  Shakes remaining old Failed = ⊤
