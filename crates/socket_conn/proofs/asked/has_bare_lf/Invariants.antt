use Rattle.std.proofs.Common.{◌≡◌, drop}
use Rattle.socket_conn.specs.Heads.{has_bare_lf, has_bare_lf_after}
use Rattle.socket_conn.proofs.asked.has_bare_lf.Given as goal

abbrev pub invariant-loop-byte : goal.invariant-loop-byte
invariant-loop-byte l = has_bare_lf l.bytes ≡ has_bare_lf_after l.before (drop l.byte-index l.bytes)
