use Rattle.std.proofs.Common.{◌≡◌, ◌∙◌, ◌+◌, drop, sym, ap, Option, None, Some, refl}
use Rattle.std.specs.Option.{option_or}
use Rattle.std.proofs.lemmas.List.{drop_all}
use Rattle.position_core.specs.declared.position.Position.{Position}
use Rattle.delivery_machine.specs.Statistics.{mark_delete}
use Rattle.plain_queries.proofs.Marks.{marked, marked_once_more, marked_no_more}
use Rattle.plain_queries.proofs.statistics.mark_delete.Goals as goal

itself : (o : Option Position) → option_or o None ≡ o
itself None = refl
itself (Some p) = refl

-- src/statistics.rt:17:5
pub loop-message-init : goal.loop-message-init
loop-message-init c = itself (mark_delete c.args.subscription.now c.args.log.now)

-- src/statistics.rt:19:13
pub returns-then-not-is_acknowledged : goal.returns-then-not-is_acknowledged
returns-then-not-is_acknowledged c =
    sym (marked_no_more c.args.subscription.now c.loop-message.mark c.args.log.now c.loop-message.message-index c.message-item.result c.loop-message-test.true c.message-item.is
    (sym c.is_acknowledged.ensures ∙ c.if-not-is_acknowledged.true)) ∙ c.loop-message.invariant

-- src/statistics.rt:17:5
pub loop-message-preserved : goal.loop-message-preserved
loop-message-preserved c =
    ap (λ p. marked c.args.subscription.now (Some p) (drop (c.loop-message.message-index + 1) c.args.log.now)) c.position.ensures
    ∙ sym (marked_once_more c.args.subscription.now c.loop-message.mark c.args.log.now c.loop-message.message-index c.message-item.result c.loop-message-test.true c.message-item.is
    (sym c.is_acknowledged.ensures ∙ c.if-not-is_acknowledged.false)) ∙ c.loop-message.invariant

-- src/statistics.rt:13:1
pub returns : goal.returns
returns c =
    sym (ap (marked c.args.subscription.now c.loop-message.mark) (drop_all c.loop-message.message-index c.args.log.now c.loop-message-test.false)) ∙ c.loop-message.invariant
