use Rattle.std.proofs.Common.{subst, sym}
use Rattle.delivery_machine.specs.State.{State}
use Rattle.delivery_machine.specs.Laws.{IsReached}
use Rattle.machine_laws.proofs.ReachedOn.{reached_fresh}
use Rattle.plain_topic.proofs.plain.PlainTopic.new.Goals as goal

pub invariant_of-result : goal.invariant_of-result
invariant_of-result c = subst (λ (s : State). IsReached s) (sym c.new.ensures) (reached_fresh c.args.name c.args.ledger_size)
