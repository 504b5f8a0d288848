use Rattle.std.proofs.Common.{[], ap, refl, subst, sym}
use Rattle.std.specs.List.{All}
use Rattle.delivery_machine.specs.Places.{KeptTopic}
use Rattle.row_forms.specs.Forms.{Span, span_of}
use Rattle.row_forms.specs.Parts.{AreCountedIn, AcksDiffer, AuthorsDiffer, CountsDiffer, DeadsDiffer, IsRising, RetentionsDiffer, SubsDiffer}
use Rattle.row_forms.proofs.Counts.{counted_in, rising_in}
use Rattle.row_forms.proofs.Leading.{whole_leads}
use Rattle.row_forms.proofs.PlacesIn.{later_itself}
use Rattle.row_forms.proofs.change.Change.whole.Goals as goal

pub returns-clause-leads : goal.returns-clause-leads
returns-clause-leads c =
    let kept = c.args.kept.now in
    let subs : SubsDiffer [] kept.subscriptions c.in_ok-sub_difference.field-0 = rw c.subscriptions.ensures at c.in_ok-sub_difference.ensures in
    let acks : AcksDiffer kept.gone kept.gone [] kept.subscriptions c.in_ok-ack_difference.field-0 = rw (ap (λ (s : Span). s.gone) c.log_of-log.ensures.value, c.subscriptions-2.ensures) at c.in_ok-ack_difference.ensures in
    let deads : DeadsDiffer (span_of kept) (span_of kept) [] kept.subscriptions c.in_ok-dead_difference.field-0 =
    rw (c.log_of-log.ensures.value, c.subscriptions-3.ensures) at c.in_ok-dead_difference.ensures in
    let counts : CountsDiffer (span_of kept) (span_of kept) [] kept.subscriptions c.in_ok-count_difference.field-0 =
    rw (c.log_of-log.ensures.value, c.subscriptions-4.ensures) at c.in_ok-count_difference.ensures in
    let authors : AuthorsDiffer [] kept.authors c.in_ok-author_difference.field-0 = rw c.authors.ensures at c.in_ok-author_difference.ensures in
    whole_leads kept _ c.row_of.result refl refl refl c.row_of.ensures subs acks deads counts authors c.in_ok-retention_difference.ensures

pub dead_difference-requires-clause-was : goal.dead_difference-requires-clause-was
dead_difference-requires-clause-was c = subst (λ (s : Span). IsRising s.log) (sym c.log_of-log.ensures.value) (rising_in c.args.kept.now c.log_of-log.ensures.restarts)

pub dead_difference-requires-clause-now : goal.dead_difference-requires-clause-now
dead_difference-requires-clause-now c = subst (λ (s : Span). IsRising s.log) (sym c.log_of-log.ensures.value) (rising_in c.args.kept.now c.log_of-log.ensures.restarts)

pub count_difference-requires-clause-was : goal.count_difference-requires-clause-was
count_difference-requires-clause-was c = subst (λ (s : Span). IsRising s.log) (sym c.log_of-log.ensures.value) (rising_in c.args.kept.now c.log_of-log.ensures.restarts)

pub count_difference-requires-clause-now : goal.count_difference-requires-clause-now
count_difference-requires-clause-now c = subst (λ (s : Span). IsRising s.log) (sym c.log_of-log.ensures.value) (rising_in c.args.kept.now c.log_of-log.ensures.restarts)

pub count_difference-requires-clause-later : goal.count_difference-requires-clause-later
count_difference-requires-clause-later c = rw c.log_of-log.ensures.value (later_itself (span_of c.args.kept.now))

pub count_difference-requires-clause-here : goal.count_difference-requires-clause-here
count_difference-requires-clause-here c =
    let kept : KeptTopic = c.args.kept.now in
    rw (c.subscriptions-4.ensures) (subst (λ (s : Span). All (AreCountedIn s.log) kept.subscriptions) (sym c.log_of-log.ensures.value) (counted_in kept c.log_of-log.ensures.restarts))
