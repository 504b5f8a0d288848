use Rattle.std.proofs.Common.{◌≤◌, length, drop}
use Rattle.tungstenite.specs.Socket.{Sent}
use Rattle.socket_conn.proofs.framed.Framed.send_output.Given as goal

abbrev pub invariant-loop : goal.invariant-loop
invariant-loop g l = Sent g.S.Write.contents l.fn.self (record {
  stream = l.self-inside.stream;
  conn = l.self-inside.context;
  input = drop l.self-inside.start l.self-inside.input.items;
  output = drop l.self-inside.sent l.self-inside.output.items;
}) × (l.self-inside.start ≤ length l.self-inside.input.items) × (l.self-inside.sent ≤ length l.self-inside.output.items)
