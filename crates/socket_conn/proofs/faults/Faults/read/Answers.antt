use Rattle.socket_conn.proofs.TalksLemmas.{brings}
use Rattle.socket_conn.proofs.faults.Faults.read.Goals as goal

pub returns-then-matches-clause-came : goal.returns-then-matches-clause-came
returns-then-matches-clause-came g c =
    let read = c.read-read.result in
    let came = c.outcome_of-came.result in (
      c.signs_since-signs.result,
      brings g.S.Read.remaining c.signs_since-signs.result c.args.socket.now c.read-read.new.self read came c.read-read.ensures c.outcome_of-came.ensures,
      c.signs_since-signs.ensures,
    )

pub returns-else-matches-clause-came : goal.returns-else-matches-clause-came
returns-else-matches-clause-came g c =
    let read = c.read-read.result in
    let came = c.outcome_of-came.result in (
      c.signs_since-signs.result,
      brings g.S.Read.remaining c.signs_since-signs.result c.args.socket.now c.read-read.new.self read came c.read-read.ensures c.outcome_of-came.ensures,
      c.signs_since-signs.ensures,
    )
