use Rattle.std.proofs.Common.{ℕ, List, length, ◌∙◌, ap, arith, refl}
use Rattle.std.specs.List.{count_by}
use Rattle.ack_ranges.specs.Ranges.{numbers}
use Rattle.topic_parts.specs.Parts.{log_of}
use Rattle.topic_subscriptions.specs.Placed.{is_live_at}
use Rattle.topic_parts.proofs.Pending.{seen_of_placed}
use Rattle.message_events.proofs.Counted.{acknowledged_counted, all_pending_counted, as_many_members, live_counted, stats_are}
use Rattle.message_events.proofs.statistics.shown.Goals as goal

pub returns : goal.returns
returns c =
    let log = log_of c.args.parts.now in
    let members = c.args.parts.now.members.members in
    let p = c.args.subscription.now in
    let acknowledged = acknowledged_counted log members p c.len-length.ensures.rising c.requires in
    let pending = all_pending_counted log p.pending.pending c.len-length.ensures.rising (seen_of_placed log members p c.requires).pending in
    let many = as_many_members log members p c.requires in
    let live = live_counted log members p c.args.parts.now.log.durable c.requires (omega (arith, c.durable.ensures.value, c.durable.ensures.within)) in (
      stats_are c.kind.ensures (ap (λ (xs : List ℕ). length xs) c.line.ensures ∙ many) c.mark_delete.ensures (c.number_acknowledged.ensures ∙ acknowledged)
          (c.number_live_below.ensures ∙ ap (λ (n : ℕ). count_by (is_live_at p) (numbers 0 n)) c.durable.ensures.value ∙ live)
          (c.number_pending.ensures ∙ pending) c.number_of_dead.ensures c.gone.ensures.value c.oldest.ensures,
      refl,
    )
