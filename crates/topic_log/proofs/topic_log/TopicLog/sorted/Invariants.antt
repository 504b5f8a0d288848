use Rattle.std.proofs.Common.{◌≡◌, ◌++◌, drop}
use Rattle.delivery_machine.specs.State.{State}
use Rattle.delivery_machine.specs.Trimming.{not_forgotten}
use Rattle.topic_log.specs.Written.{written_in}
use Rattle.topic_log.specs.Trimming.{forgotten}
use Rattle.topic_log.proofs.topic_log.TopicLog.sorted.Given as goal

abbrev pub invariant-each : goal.invariant-each
invariant-each l =
    (s : State) → (l.kept.items ++ not_forgotten (written_in l.self s) (drop l.count l.self.log.log) (drop l.i l.authors) ≡ not_forgotten (written_in l.self s) (drop l.count l.self.log.log) l.authors)
    × (l.forgotten.items ++ forgotten (written_in l.self s) (drop l.count l.self.log.log) (drop l.i l.authors) ≡ forgotten (written_in l.self s) (drop l.count l.self.log.log) l.authors)
