use Rattle.std.proofs.Common.{sym, ap, subst, List}
use Rattle.dedup_core.specs.Sequences.{AgreesWith}
use Rattle.delivery_machine.specs.State.{State, Author}
use Rattle.delivery_machine.specs.Trimming.{with_authors}
use Rattle.delivery_machine.specs.Laws.{IsReached}
use Rattle.machine_laws.proofs.ReachedOn.{reached_fresh}
use Rattle.topic_served.proofs.Telling.{nobody_told}
use Rattle.topic_served.proofs.served.Served.new.Goals as goal

pub returns-clause-settled : goal.returns-clause-settled
returns-clause-settled c = record {
  reached = subst (λ (s : State). IsReached s) (sym c.new.ensures.state) (reached_fresh c.args.name c.args.ledger_size);
  bound = record {
    numbers = subst (λ (all : List Author). AgreesWith all c.new.result.log.numbers) (sym (ap (λ (s : State). with_authors s.gone s.log s.authors) c.new.ensures.state)) c.new.ensures.agrees;
    tied = c.new.ensures.tied;
    told = nobody_told c.new-2.result.items c.new.result c.new-2.ensures.items (ap (λ (s : State). s.subscriptions) c.new.ensures.state);
  };
}
