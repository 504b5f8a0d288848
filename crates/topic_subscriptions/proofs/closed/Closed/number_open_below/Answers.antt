use Rattle.std.proofs.Common.{arith}
use Rattle.std.specs.Prelude.{not}
use Rattle.std.specs.FinSet as set
use Rattle.ack_ranges.proofs.Counts.{count_alike, count_rest}
use Rattle.topic_subscriptions.specs.Closed.{is_open}
use Rattle.topic_subscriptions.proofs.Outcomes.{open_is, seen}
use Rattle.topic_subscriptions.proofs.closed.Closed.number_open_below.Goals as goal

pub returns : goal.returns
returns c =
    let all = c.self.inside.all in
    let owed = c.self.inside.owed.places in
    let same = count_alike (is_open (seen all owed)) (λ k. not (set.contains all k)) 0 c.args.end (λ k from below. open_is all owed c.self.invariant.within k) in
    rw (← c.self.view_is) (omega (arith, same, count_rest (set.contains all) 0 c.args.end, c.count_below.ensures.value))
