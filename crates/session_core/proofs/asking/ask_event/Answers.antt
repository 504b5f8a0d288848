use Rattle.session_core.proofs.Series.{asked_so}
use Rattle.session_core.proofs.asking.ask_event.Goals as goal

pub returns : goal.returns
returns g c = asked_so _ _ _ _ _ c.ask-reply.ensures c.more_after.ensures.ok c.more_after.ensures.err
