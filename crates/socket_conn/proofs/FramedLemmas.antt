-- What a message comes to that lies in the input.
use Rattle.std.proofs.Common.{◌≡◌, ℕ, List, Option, None, Some, refl, sym, ap}
use Rattle.std.specs.Prelude.{option_map}
use Rattle.httparse.specs.Spans.{span_bytes}
use Rattle.httparse.specs.declared.spans.Span.{Span}
use Rattle.websocket.specs.declared.protocol.frame.coding.CloseCode.{CloseCode}
use Rattle.websocket.specs.Content.{payload_bytes, received_content}
use Rattle.websocket.specs.declared.protocol.message.Payload.{Payload}
use Rattle.websocket.specs.declared.protocol.message.Received.{Received}
use Rattle.websocket.specs.declared.protocol.message.Received.TheVariants as Got
use Rattle.tungstenite.specs.Socket.{content_of}
use Rattle.tungstenite.specs.declared.message.Message.{Message}
use Rattle.tungstenite.specs.declared.message.Message.TheVariants as Kind
use Rattle.socket_conn.specs.Talks.{ComesFrom, GivesAs, IsDataOf, MessageComesTo}
use Rattle.socket_conn.specs.declared.outcomes.Came.{Came}

pub text_comes : (input : List ℕ) (payload : Payload) (came : Came) → IsDataOf (payload_bytes input payload) came → ComesFrom input (Got.Text payload) came
text_comes input payload (Came.Text copy) is = (Kind.Text (payload_bytes input payload), refl, is)
text_comes input payload Came.Lost is = (Kind.Text (payload_bytes input payload), refl, tt)
text_comes input payload came is = absurd is

pub binary_comes : (input : List ℕ) (payload : Payload) (came : Came) → IsDataOf (payload_bytes input payload) came → ComesFrom input (Got.Binary payload) came
binary_comes input payload (Came.Text copy) is = (Kind.Binary (payload_bytes input payload), refl, is)
binary_comes input payload Came.Lost is = (Kind.Binary (payload_bytes input payload), refl, tt)
binary_comes input payload came is = absurd is

pub close_comes : (input : List ℕ) (frame : Option (CloseCode × Span)) → ComesFrom input (Got.Close frame) Came.Closes
close_comes input None = (Kind.Close None, refl, tt)
close_comes input (Some p) = (Kind.Close (Some (record { code = p.0; reason = span_bytes input p.1 })), refl, tt)

-- a frame comes to nothing where it has no message
pub nothing_given : (input : List ℕ) (received : Option Received) → GivesAs input received None → received ≡ None
nothing_given input None is = refl
nothing_given input (Some m) is = absurd is

-- the message of a frame that has come to this
pub given_from : (input : List ℕ) (received : Option Received) (came : Came) → GivesAs input received (Some came)
    → (message : Message) × (option_map (received_content input) received ≡ Some (content_of message)) × MessageComesTo message came
given_from input None came is = cc
given_from input (Some m) came (message, content, comes) = (message, ap Some (sym content), comes)
