use Rattle.std.proofs.Common.{refl}
use Rattle.tungstenite.specs.declared.message.Message.TheVariants as Kind
use Rattle.socket_conn.proofs.FramedLemmas.{binary_comes, close_comes, text_comes}
use Rattle.socket_conn.proofs.outcomes.came_of.Goals as goal

pub returns-in-Text : goal.returns-in-Text
returns-in-Text c = rw c.in-Text.is (text_comes c.args.input.now c.in-Text.payload c.data_of.result c.data_of.ensures)

pub returns-in-Binary : goal.returns-in-Binary
returns-in-Binary c = rw c.in-Binary.is (binary_comes c.args.input.now c.in-Binary.payload c.data_of-in-Binary.result c.data_of-in-Binary.ensures)

pub returns-in-Ping : goal.returns-in-Ping
returns-in-Ping c = rw c.in-Ping.is (Kind.Ping _, refl, tt)

pub returns-in-Pong : goal.returns-in-Pong
returns-in-Pong c = rw c.in-Pong.is (Kind.Pong _, refl, tt)

pub returns-in-Close : goal.returns-in-Close
returns-in-Close c = rw c.in-Close.is (close_comes _ _)
