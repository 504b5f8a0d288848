use Rattle.std.proofs.Common.{◌≡◌}
use Rattle.socket_conn.specs.Shakes.{HasHeard, HasLooked}
use Rattle.socket_conn.proofs.shaking.Shaking.advance.Given as goal

abbrev pub invariant-loop : goal.invariant-loop
invariant-loop g l =
    record {
      heard : HasHeard g.S.Read.remaining l.fn.self l.shaking;
      same : l.shaking.stream.dry ≡ l.fn.self.stream.dry;
      looked : HasLooked l.fn.self l.shaking;
    }
