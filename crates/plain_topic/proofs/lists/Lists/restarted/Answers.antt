use Rattle.std.proofs.Common.{rules, refl, sym, subst}
use Rattle.delivery_machine.specs.State.{State}
use Rattle.delivery_machine.specs.Laws.{IsReached}
use Rattle.delivery_machine.specs.Places.{snapshot_in}
use Rattle.machine_laws.proofs.ReachedOn.{reached_restarted}
use Rattle.plain_topic.proofs.Saved.{goes_on}
use Rattle.plain_topic.proofs.lists.Lists.restarted.Goals as goal

pub returns-clause-state : goal.returns-clause-state
returns-clause-state c =
    goes_on c.args.snapshot.now c.in_ok-name.name c.ledger_size.result c.ledger_after.result c.next_ordinal.result 1 1 c.gone.result c.in_ok-authors.authors.items c.retention.result c.len-durable.result c.in_ok-log.log.items c.new.result.items c.new-2.result.items c.in_ok-subscriptions.subscriptions.items
    (search rules) (search rules) (search rules) (search rules) refl refl (search rules) (search rules) (search rules) (search rules) (search rules) (search rules) (search rules) (search rules)

pub returns-clause-reached : goal.returns-clause-reached
returns-clause-reached c =
    subst (λ (s : State). IsReached s) (sym (returns-clause-state c)) (reached_restarted (snapshot_in c.args.snapshot.now) c.log.ensures.restarts.sound)
