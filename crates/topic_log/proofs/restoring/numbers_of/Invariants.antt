use Rattle.std.proofs.Common.{take}
use Rattle.dedup_core.specs.Sequences.{AgreesWith}
use Rattle.topic_log.proofs.restoring.numbers_of.Given as goal

abbrev pub invariant-each : goal.invariant-each
invariant-each l = AgreesWith (take l.i l.authors) l.sequences
