use Rattle.topic_subscriptions.proofs.Differing.{begins, first_some, first_apart, goes_on, ends}
use Rattle.topic_subscriptions.proofs.less.less.Goals as goal

pub each-init : goal.each-init
each-init c = rw c.new-left.ensures (begins c.args.all.now c.args.owed.now.places c.ranges-ranges.result c.ranges-ranges.ensures)

pub push_less-requires-clause-some : goal.push_less-requires-clause-some
push_less-requires-clause-some c = first_some c.args.all.now c.args.owed.now.places c.each.left c.each.ranges c.first_of.new.ranges (c.in-Some.start, c.in-Some.end) c.each.invariant c.in-Some.ensures

pub push_less-requires-clause-apart : goal.push_less-requires-clause-apart
push_less-requires-clause-apart c = first_apart c.args.all.now c.args.owed.now.places c.each.left c.each.ranges c.first_of.new.ranges (c.in-Some.start, c.in-Some.end) c.each.invariant c.in-Some.ensures

pub each-preserved : goal.each-preserved
each-preserved c =
    goes_on c.args.all.now c.args.owed.now.places c.each.left c.push_less.new.left c.each.ranges c.first_of.new.ranges (c.in-Some.start, c.in-Some.end) c.each.invariant c.in-Some.ensures c.in_ok-push_less.ensures

pub returns : goal.returns
returns c = ends c.args.all.now c.args.owed.now.places c.each.left c.each.ranges c.each.invariant c.in_default.ensures
