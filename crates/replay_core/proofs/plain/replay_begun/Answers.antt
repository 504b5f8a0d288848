use Rattle.replay_core.proofs.plain.replay_begun.Goals as goal

pub returns : goal.returns
returns g c = (_, c.replay_over.ensures)
