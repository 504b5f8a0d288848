use Rattle.broker_dir.proofs.overview.topics_seen.Goals as goal

pub loop-name-preserved : goal.loop-name-preserved
loop-name-preserved g c = c.see_one.ensures.looks c.loop-name.invariant
