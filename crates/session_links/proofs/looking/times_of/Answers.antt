use Rattle.std.proofs.Common.{◌≡◌, ap, ◌∙◌, subst, sym}
use Rattle.std.specs.Option.{option_copied}
use Rattle.delivery_machine.specs.Places.{KeptPlaces}
use Rattle.delivery_machine.specs.contracts.kept_subscription.KeptSubscription as KeptSubscription
use Rattle.session_links.specs.Looking.{times_of}
use Rattle.session_links.proofs.Times.{no_times, some_times}
use Rattle.session_links.proofs.looking.times_of.Goals as goal

pub returns-in-Some : goal.returns-in-Some
returns-in-Some c =
    subst (λ (k : KeptPlaces). c.get.result ≡ times_of k c.args.position) c.kept.view_is
    (some_times (KeptSubscription.the_view c.kept.inside) c.args.position c.as_slice.result.now c.in-Some.counted.now c.get.result c.as_slice.ensures.entries
    (sym c.counted_of.ensures ∙ ap option_copied c.in-Some.is) c.get.ensures.value)

pub returns-in-None : goal.returns-in-None
returns-in-None c =
    subst (λ (k : KeptPlaces). 0 ≡ times_of k c.args.position) c.kept.view_is
    (no_times (KeptSubscription.the_view c.kept.inside) c.args.position c.as_slice.result.now c.as_slice.ensures.entries (sym c.counted_of.ensures ∙ ap option_copied c.in-None.is))
