use Rattle.std.proofs.Common.{◌-◌, length, take, drop, subst}
use Rattle.std.specs.Io.KnownBytes.{Appends}
use Rattle.socket_conn.proofs.HeldLemmas.{goes}
use Rattle.socket_conn.proofs.held.Held.put_first.Goals as goal

pub returns-in-Ok-clause-bytes : goal.returns-in-Ok-clause-bytes
returns-in-Ok-clause-bytes g c = goes _ _ c.args.self.now.first.items c.args.self.now.at c.in-Ok.n (subst (λ l. Appends (g.S.Write.contents c.args.self.now.inner) (g.S.Write.contents c.write.new.self) (take c.in-Ok.n (take (length l - c.args.self.now.at) (drop c.args.self.now.at l)))) c.deref.ensures.value c.in-Ok.ensures.bytes)
