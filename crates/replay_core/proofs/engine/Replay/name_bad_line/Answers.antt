use Rattle.replay_core.proofs.Endings.{Ended-silent, no_bad_line}
use Rattle.replay_core.proofs.engine.Replay.name_bad_line.Goals as goal

pub returns-in_default : goal.returns-in_default
returns-in_default c = λ s input left w t h.
    Ended-silent s input left _ c.args.outcome (no_bad_line c.args.outcome c.in_default.ensures) h
