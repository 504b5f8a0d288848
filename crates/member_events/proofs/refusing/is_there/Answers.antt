use Rattle.std.proofs.Common.{ap, sym}
use Rattle.std.specs.Prelude.{is_some}
use Rattle.delivery_machine.specs.Words.{is_named}
use Rattle.delivery_machine.proofs.Places.{found_nothing}
use Rattle.topic_parts.specs.Parts.{log_of, state_of}
use Rattle.topic_parts.proofs.Changing.{named_sub}
use Rattle.topic_served.proofs.Telling.{one_stands}
use Rattle.topic_subscriptions.specs.Placed.{is_placed}
use Rattle.member_events.proofs.refusing.is_there.Goals as goal

pub returns-in-Some : goal.returns-in-Some
returns-in-Some c =
    let t = c.args.served.now.parts in
    let x = one_stands (is_placed c.args.name.now) t.subscriptions.items c.in-Some.field-0 c.in-Some.ensures.placed in
    sym (ap is_some (named_sub (log_of t) t.subscriptions.items c.args.name.now c.in-Some.field-0 c.in-Some.ensures.placed x.0 x.2))

pub returns-in-None : goal.returns-in-None
returns-in-None c = sym (ap is_some (found_nothing (is_named c.args.name.now) (state_of c.args.served.now.parts).subscriptions c.in-None.ensures.value))
