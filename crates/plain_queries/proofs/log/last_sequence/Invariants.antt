use Rattle.std.proofs.Common.{◌≡◌, ◌++◌, map, take}
use Rattle.delivery_machine.specs.Words.{greatest_under, signed, signed_by}
use Rattle.plain_queries.proofs.log.last_sequence.Given as goal

abbrev pub invariant-loop-message : goal.invariant-loop-message
invariant-loop-message l = l.last ≡ greatest_under l.name (map signed_by l.authors ++ map signed (take l.message-index l.log))
