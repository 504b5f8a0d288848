use Rattle.std.specs.Option.{option_copied}
use Rattle.std.proofs.lemmas.Result.{err_from_is_err_and}
use Rattle.replay_lines.specs.Grammar.{last_word}
use Rattle.replay_lines.proofs.Deaths.{no_subscribe}
use Rattle.replay_lines.proofs.LastWords.{no_ranges}
use Rattle.replay_lines.proofs.joining.read_subscribe.Goals as goal

pub returns-in_err-ranges : goal.returns-in_err-ranges
returns-in_err-ranges c =
    let p = err_from_is_err_and c.from_residual-in_err-ranges.result c.from_residual-in_err-ranges.ensures.1 in
    let first = c.in_ok-subscription in
    let second = c.in_ok-flow in
    let third = c.in_ok-max_redeliver in
    let last = c.in_ok-last in
    rw (p.1, p.2) (no_ranges c.args.this.now c.args.words (option_copied last.last) first.subscription.now first.kind.now first.level.now second.flow.now second.ack_timeout.now second.nack_delay.now third.max_redeliver.now third.dead_topic.now third.initial.now c.in_ok-kind.kind _ (cc (first.ensures.ok, second.ensures.ok, third.ensures.ok, last.ensures.ok)) c.in_ok-kind.ensures c.in_err-ranges.ensures)

pub returns-in_err-max_redeliver-2 : goal.returns-in_err-max_redeliver-2
returns-in_err-max_redeliver-2 c =
    let p = err_from_is_err_and c.from_residual-in_err-max_redeliver-2.result c.from_residual-in_err-max_redeliver-2.ensures.1 in
    let first = c.in_ok-subscription in
    let second = c.in_ok-flow in
    let third = c.in_ok-max_redeliver in
    let last = c.in_ok-last in
    rw (p.1, p.2) (no_subscribe c.args.this.now c.args.words (last_word (option_copied last.last)) first.subscription.now first.kind.now first.level.now second.flow.now second.ack_timeout.now second.nack_delay.now third.max_redeliver.now third.dead_topic.now third.initial.now c.in_ok-subscription-2.subscription _ (cc (first.ensures.ok, second.ensures.ok, third.ensures.ok, last.ensures.ok)) c.in_ok-subscription-2.ensures c.in_err-max_redeliver-2.ensures)
