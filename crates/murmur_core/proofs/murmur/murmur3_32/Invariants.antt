use Rattle.std.proofs.Common.{◌≡◌, length}
use Rattle.murmur_core.specs.Murmur.{with_bytes}
use Rattle.murmur_core.proofs.murmur.murmur3_32.Given as goal

-- what is left goes into the hash as all of the bytes go into the start
abbrev pub invariant-loop-rest : goal.invariant-loop-rest
invariant-loop-rest l = with_bytes l.hash l.rest ≡ with_bytes l.fn.start l.fn.bytes

abbrev pub decreases-loop-rest : goal.decreases-loop-rest
decreases-loop-rest l = length l.rest
