use Rattle.std.proofs.Common.{sym, ap, subst}
use Rattle.delivery_machine.specs.State.{State}
use Rattle.delivery_machine.specs.Run.{Answers}
use Rattle.delivery_machine.specs.declared.event.Event.TheVariants.{AddProducer}
use Rattle.entry_log.specs.Log.{Log}
use Rattle.topic_served.specs.Served.{state_in}
use Rattle.log_events.proofs.SameLog.{bound_beside, only_producers, same_messages}
use Rattle.log_events.proofs.connecting.add_producer.Goals as goal

pub returns-clause-answers : goal.returns-clause-answers
returns-clause-answers c =
    let old = c.args.served.now in
    let log = c.add_producer.new.self in
    subst (λ (s : State). Answers (state_in old) (AddProducer c.args.asked.now c.args.base) c.add_producer.result s) (sym (same_messages old log (ap (λ (l : Log). l.log) c.add_producer.ensures.log)))
    (c.add_producer.ensures.answers (state_in old))

pub returns-clause-bound : goal.returns-clause-bound
returns-clause-bound c =
    let w = c.add_producer.new.self in
    let same = c.add_producer.ensures in
    bound_beside c.args.served.now w (only_producers c.args.served.now.parts.log w same.gone same.authors same.retention same.log same.numbers same.durable) c.requires.bound
