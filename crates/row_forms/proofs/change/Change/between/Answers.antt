use Rattle.std.proofs.Common.{◌≡◌, ap, ◌+◌, ◌-◌, length, subst, sym, arith}
use Rattle.std.specs.Prelude.{not}
use Rattle.std.specs.List.{All}
use Rattle.delivery_machine.specs.Places.{KeptPlaces, KeptTopic}
use Rattle.row_forms.specs.Forms.{Span, span_of}
use Rattle.row_forms.specs.Places.{seen}
use Rattle.row_forms.specs.Parts.{AreCountedIn, AcksDiffer, AuthorsDiffer, CountsDiffer, DeadsDiffer, IsRising, RetentionsDiffer, SubsDiffer}
use Rattle.row_forms.proofs.Counts.{counted_in, rising_in}
use Rattle.row_forms.proofs.Leading.{between_leads, unchanged}
use Rattle.row_forms.proofs.change.Change.between.Goals as goal

pub dead_difference-requires-clause-was : goal.dead_difference-requires-clause-was
dead_difference-requires-clause-was c = subst (λ (s : Span). IsRising s.log) (sym c.log_of.ensures.value) (rising_in c.args.base.now c.log_of.ensures.restarts)

pub dead_difference-requires-clause-now : goal.dead_difference-requires-clause-now
dead_difference-requires-clause-now c = subst (λ (s : Span). IsRising s.log) (sym c.log_of-2.ensures.value) (rising_in c.args.kept.now c.log_of-2.ensures.restarts)

pub count_difference-requires-clause-was : goal.count_difference-requires-clause-was
count_difference-requires-clause-was c = subst (λ (s : Span). IsRising s.log) (sym c.log_of.ensures.value) (rising_in c.args.base.now c.log_of.ensures.restarts)

pub count_difference-requires-clause-now : goal.count_difference-requires-clause-now
count_difference-requires-clause-now c = subst (λ (s : Span). IsRising s.log) (sym c.log_of-2.ensures.value) (rising_in c.args.kept.now c.log_of-2.ensures.restarts)

pub count_difference-requires-clause-later : goal.count_difference-requires-clause-later
count_difference-requires-clause-later c = rw (c.log_of.ensures.value, c.log_of-2.ensures.value) c.requires.log

pub count_difference-requires-clause-there : goal.count_difference-requires-clause-there
count_difference-requires-clause-there c =
    let base : KeptTopic = c.args.base.now in
    rw (c.subscriptions-7.ensures) (subst (λ (s : Span). All (AreCountedIn s.log) base.subscriptions) (sym c.log_of.ensures.value) (counted_in base c.log_of.ensures.restarts))

pub count_difference-requires-clause-here : goal.count_difference-requires-clause-here
count_difference-requires-clause-here c =
    let kept : KeptTopic = c.args.kept.now in
    rw (c.subscriptions-8.ensures) (subst (λ (s : Span). All (AreCountedIn s.log) kept.subscriptions) (sym c.log_of-2.ensures.value) (counted_in kept c.log_of-2.ensures.restarts))

pub returns-clause-leads : goal.returns-clause-leads
returns-clause-leads c =
    let base = c.args.base.now in
    let kept = c.args.kept.now in
    let subs : SubsDiffer base.subscriptions kept.subscriptions c.in_ok-sub_difference.field-0 = rw (c.subscriptions.ensures, c.subscriptions-2.ensures) at c.in_ok-sub_difference.ensures in
    let acks : AcksDiffer base.gone kept.gone base.subscriptions kept.subscriptions c.in_ok-ack_difference.field-0 =
    rw (ap (λ (s : Span). s.gone) c.log_of.ensures.value, ap (λ (s : Span). s.gone) c.log_of-2.ensures.value, c.subscriptions-3.ensures, c.subscriptions-4.ensures) at c.in_ok-ack_difference.ensures in
    let deads : DeadsDiffer (span_of base) (span_of kept) base.subscriptions kept.subscriptions c.in_ok-dead_difference.field-0 =
    rw (c.log_of.ensures.value, c.log_of-2.ensures.value, c.subscriptions-5.ensures, c.subscriptions-6.ensures) at c.in_ok-dead_difference.ensures in
    let counts : CountsDiffer (span_of base) (span_of kept) base.subscriptions kept.subscriptions c.in_ok-count_difference.field-0 =
    rw (c.log_of.ensures.value, c.log_of-2.ensures.value, c.subscriptions-7.ensures, c.subscriptions-8.ensures) at c.in_ok-count_difference.ensures in
    let authors : AuthorsDiffer base.authors kept.authors c.in_ok-author_difference.field-0 = rw (c.authors.ensures, c.authors-2.ensures) at c.in_ok-author_difference.ensures in
    let went : base.gone + c.went.result ≡ kept.gone = c.went.ensures in
    let from : c.stayed.result ≡ length base.log - c.went.result = (let is = c.stayed.ensures in omega (arith, is, went)) in
    between_leads base kept _ c.row_of.result c.row_of-2.result c.requires.name c.requires.log (unchanged c.has_same_row.result (c.has_same_row.ensures.0)) went from c.row_of.ensures c.row_of-2.ensures subs acks deads counts authors
    c.in_ok-retention_difference.ensures

pub returns-clause-topic : goal.returns-clause-topic
returns-clause-topic c = (unchanged c.has_same_row.result c.has_same_row.ensures.0, λ all. ap not (c.has_same_row.ensures.1 all))
