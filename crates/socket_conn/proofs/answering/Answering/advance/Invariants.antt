use Rattle.std.proofs.Common.{◌≡◌}
use Rattle.std.specs.Io.KnownBytes.{Keeps}
use Rattle.socket_conn.specs.Answering.{HasWritten, sent_and_left}
use Rattle.socket_conn.proofs.answering.Answering.advance.Given as goal

abbrev pub invariant-loop : goal.invariant-loop
invariant-loop g l =
    record {
      bytes : Keeps (sent_and_left g.S.Write.contents l.fn.self) (sent_and_left g.S.Write.contents l.self);
      same : HasWritten l.fn.self l.self;
      full : l.self.stream.full ≡ l.fn.self.stream.full;
    }
