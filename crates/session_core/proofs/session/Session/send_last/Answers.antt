use Rattle.session_core.proofs.Closing.{fails_before_close, sends_before_close}
use Rattle.session_core.proofs.session.Session.send_last.Goals as goal

pub returns-in-Ok : goal.returns-in-Ok
returns-in-Ok g c = sends_before_close _ _ _ _ _ _ _ _ _ _ c.in-Closed.is c.in-Ok.ensures

pub returns-in-Err : goal.returns-in-Err
returns-in-Err g c = fails_before_close _ _ _ _ _ _ _ _ _ _ _ c.in-Closed.is c.in-Err.ensures
