use Rattle.std.proofs.Common.{ℕ, List, Option, Some, None, ap, refl, subst}
use Rattle.std.specs.Prelude.{is_some, if◌then◌else◌}
use Rattle.position_core.specs.declared.fault.Fault.TheVariants.{NoSuchSubscription}
use Rattle.delivery_machine.specs.State.{Subscription}
use Rattle.delivery_machine.specs.Words.{is_named}
use Rattle.delivery_machine.specs.Statistics.{ShowsStatistics}
use Rattle.delivery_machine.proofs.Places.{found_nothing}
use Rattle.topic_subscriptions.specs.Placed.{sub_in}
use Rattle.topic_parts.specs.Parts.{log_of}
use Rattle.topic_parts.proofs.Changing.{named_sub, placed_there}
use Rattle.topic_served.specs.Served.{state_in}
use Rattle.message_events.proofs.Counted.{name_there, shown_answers}
use Rattle.message_events.proofs.statistics.stats.Goals as goal

pub returns-in_default : goal.returns-in_default
returns-in_default c =
    (ap (λ (o : Option Subscription). if is_some o then None else Some NoSuchSubscription) (found_nothing (is_named c.args.name.now) (state_in c.args.served.now).subscriptions c.in_default.ensures.value), refl)

pub shown-requires : goal.shown-requires
shown-requires c =
    placed_there (log_of c.args.served.now.parts) c.args.served.now.parts.subscriptions.items c.args.name.now c.in-Some.place c.in-Some.ensures.placed c.args.served.now.parts.members.members c.index.result.now c.requires.bound.tied c.index.ensures

pub returns : goal.returns
returns c =
    let t = c.args.served.now.parts in
    let s = state_in c.args.served.now in
    let x = c.index.result.now in
    shown_answers s c.args.name.now (sub_in (log_of t) x) c.shown.result
    (named_sub (log_of t) t.subscriptions.items c.args.name.now c.in-Some.place c.in-Some.ensures.placed x c.index.ensures)
    (subst (λ (n : List ℕ). ShowsStatistics s n (sub_in (log_of t) x) c.shown.result s)
    (name_there t.subscriptions.items c.args.name.now c.in-Some.place x c.in-Some.ensures.placed c.index.ensures) c.shown.ensures)
