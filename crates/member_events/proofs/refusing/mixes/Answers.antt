use Rattle.std.proofs.Common.{◌∙◌, ap, sym, Option, false}
use Rattle.std.specs.Option.{option_map_or}
use Rattle.delivery_machine.specs.Shares.{mixes}
use Rattle.delivery_machine.specs.State.{Subscription}
use Rattle.delivery_machine.specs.Words.{is_named}
use Rattle.delivery_machine.proofs.Places.{found_nothing}
use Rattle.topic_parts.specs.Parts.{log_of, state_of}
use Rattle.topic_parts.proofs.Changing.{named_sub}
use Rattle.member_events.proofs.refusing.mixes.Goals as goal

pub returns-in-Some : goal.returns-in-Some
returns-in-Some c =
    let t = c.args.served.now.parts in
    c.mixes.ensures
    ∙ sym (ap (λ (o : Option Subscription). option_map_or (λ sub. mixes c.args.kind c.args.ranges.now sub.shares) o false) (named_sub (log_of t) t.subscriptions.items c.args.name.now c.in-Some.place c.in-Some.ensures.placed c.index.result.now c.index.ensures))

pub returns-in-None : goal.returns-in-None
returns-in-None c =
    sym (ap (λ (o : Option Subscription). option_map_or (λ sub. mixes c.args.kind c.args.ranges.now sub.shares) o false) (found_nothing (is_named c.args.name.now) (state_of c.args.served.now.parts).subscriptions c.in-None.ensures.value))
