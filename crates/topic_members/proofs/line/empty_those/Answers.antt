use Rattle.std.proofs.Common.{sym, take}
use Rattle.topic_members.proofs.Lined.{emptied_none, emptied_further, still_rising}
use Rattle.topic_members.proofs.line.empty_those.Goals as goal

pub loop-number-init : goal.loop-number-init
loop-number-init c = sym (emptied_none c.args.members.now.items)

pub empty-requires : goal.empty-requires
empty-requires c = still_rising (take c.loop-number.number-index c.args.line.now) c.args.members.now.items c.loop-number.members.items c.requires c.loop-number.invariant

pub loop-number-preserved : goal.loop-number-preserved
loop-number-preserved c =
    emptied_further c.args.line.now c.loop-number.number-index c.args.members.now.items c.loop-number.members.items c.empty.new.members.items c.requires c.loop-number-test.true c.loop-number.invariant c.empty.ensures
