use Rattle.std.proofs.Common.{◌≡◌, length}
use Rattle.topic_log.specs.Trimming.{without_names}
use Rattle.topic_log.proofs.trimming.forget_all.Given as goal

abbrev pub invariant-each : goal.invariant-each
invariant-each l = without_names l.names.items l.sequences ≡ without_names l.initial.names.items l.initial.sequences

abbrev pub decreases-each : goal.decreases-each
decreases-each l = length l.names.items
