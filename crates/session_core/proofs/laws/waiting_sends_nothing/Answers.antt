use Rattle.session_core.proofs.Quiet.{waits_quietly}
use Rattle.session_core.proofs.laws.waiting_sends_nothing.Goals as goal

pub returns : goal.returns
returns c = waits_quietly
