use Rattle.std.proofs.Common.{◌≡◌, drop}
use Rattle.delivery_machine.specs.Statistics.{mark_delete}
use Rattle.plain_queries.proofs.Marks.{marked}
use Rattle.plain_queries.proofs.statistics.mark_delete.Given as goal

abbrev pub invariant-loop-message : goal.invariant-loop-message
invariant-loop-message l = marked l.subscription l.mark (drop l.message-index l.log) ≡ mark_delete l.subscription l.log
