use Rattle.std.proofs.Common.{◌∙◌, sym, ap, Option, false}
use Rattle.std.specs.Option.{option_map_or}
use Rattle.position_core.specs.Kind.{is_in_order}
use Rattle.delivery_machine.specs.State.{Subscription}
use Rattle.delivery_machine.specs.Words.{is_named}
use Rattle.delivery_machine.proofs.Places.{found_nothing}
use Rattle.topic_parts.specs.Parts.{log_of}
use Rattle.topic_parts.proofs.Changing.{named_sub}
use Rattle.topic_served.specs.Served.{state_in}
use Rattle.message_events.proofs.acknowledging.is_in_order_at.Goals as goal

pub returns-in-Some : goal.returns-in-Some
returns-in-Some c =
    let t = c.args.served.now.parts in
    c.is_in_order.ensures ∙ ap is_in_order c.kind.ensures
    ∙ sym (ap (λ (o : Option Subscription). option_map_or (λ sub. is_in_order sub.kind) o false) (named_sub (log_of t) t.subscriptions.items c.args.name.now c.in-Some.place c.in-Some.ensures.placed c.index.result.now c.index.ensures))

pub returns-in-None : goal.returns-in-None
returns-in-None c =
    sym (ap (λ (o : Option Subscription). option_map_or (λ sub. is_in_order sub.kind) o false) (found_nothing (is_named c.args.name.now) (state_in c.args.served.now).subscriptions c.in-None.ensures.value))
