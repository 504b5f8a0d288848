use Rattle.std.proofs.Common.{List, ℕ}
use Rattle.tungstenite.specs.Socket.{Run, Progress}
use Rattle.socket_conn.proofs.framed.Framed.read.Given as goal

abbrev pub invariant-loop : goal.invariant-loop
invariant-loop g l = (ps : Run) × (got : List ℕ) × (sent : List ℕ) × Progress g.S.Read.remaining l.fn.self l.self ps got sent
