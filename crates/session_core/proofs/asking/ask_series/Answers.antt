use Rattle.std.proofs.Common.{arith}
use Rattle.session_core.proofs.Series.{asked_all, asked_end, asked_last, asked_none, asked_one}
use Rattle.session_core.proofs.asking.ask_series.Goals as goal

pub loop-init : goal.loop-init
loop-init g c = asked_none _ _

pub returns-in-Ok-false : goal.returns-in-Ok-false
returns-in-Ok-false g c = asked_last _ _ _ _ _ c.loop.invariant (omega arith) (rw c.in-Ok-false.field-0-test at c.in-Ok-false.ensures)

pub returns-in-Err : goal.returns-in-Err
returns-in-Err g c = asked_end _ _ _ _ _ _ c.loop.invariant (omega arith) c.in-Err.ensures

pub loop-preserved : goal.loop-preserved
loop-preserved g c = asked_one _ _ _ _ _ c.loop.invariant (rw c.in-Ok-true.field-0-test at c.in-Ok-true.ensures)

pub returns : goal.returns
returns g c = asked_all _ _ _ _ c.loop.invariant (omega arith)
