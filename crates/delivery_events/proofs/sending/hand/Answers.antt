use Rattle.std.proofs.Common.{ap}
use Rattle.topic_parts.specs.Parts.{state_of}
use Rattle.delivery_events.proofs.Handing.{given_nothing}
use Rattle.delivery_events.proofs.sending.hand.Goals as goal

pub returns-in-Err-hold-clause-err : goal.returns-in-Err-hold-clause-err
returns-in-Err-hold-clause-err c =
    given_nothing (state_of c.args.parts.now) (state_of c.give.new.parts) (state_of c.hold.new.self) (state_of c.take_back.new.parts) c.args.held.consumer c.args.delivery
    c.in-Ok.ensures.ok (ap state_of c.in-Err-hold.ensures.err) c.take_back.ensures.state
