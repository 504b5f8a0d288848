use Rattle.dispatch_keyed.proofs.Firsts.{put_others, put_here, take_others, take_here}
use Rattle.dispatch_keyed.proofs.renewing.renew.Goals as goal

pub returns-in-Some-clause-others : goal.returns-in-Some-clause-others
returns-in-Some-clause-others g c = put_others c.args.firsts.now c.put.new.self c.args.hash c.in-Some.first c.put.ensures

pub returns-in-Some-clause-first : goal.returns-in-Some-clause-first
returns-in-Some-clause-first g c right before =
    rw (put_here c.args.firsts.now c.put.new.self c.args.hash c.in-Some.first c.put.ensures) (c.in-Some.ensures.first right before)

pub returns-in-None-clause-others : goal.returns-in-None-clause-others
returns-in-None-clause-others g c = take_others c.args.firsts.now c.take_out.new.self c.args.hash c.take_out.ensures

pub returns-in-None-clause-first : goal.returns-in-None-clause-first
returns-in-None-clause-first g c right before =
    rw (take_here c.args.firsts.now c.take_out.new.self c.args.hash c.take_out.ensures) (c.in-None.ensures.first right before)
