use Rattle.std.proofs.Common.{arith}
use Rattle.session_core.proofs.Taking.{took_all, took_end, took_none, took_nothing, took_one}
use Rattle.session_core.proofs.session.Session.take_texts.Goals as goal

pub loop-init : goal.loop-init
loop-init g c = took_none c.args.self.now _ _ _ _ c.requires

pub take_next-requires : goal.take_next-requires
take_next-requires g c = c.loop.invariant.opens

pub returns-in-Ok-Nothing : goal.returns-in-Ok-Nothing
returns-in-Ok-Nothing g c = took_nothing _ _ _ _ _ _ _ _ _ _ _ _ _ _ c.loop.invariant (omega arith) (rw c.in-Ok-Nothing.field-0-is at c.in-Ok-Nothing.ensures)

pub returns-in-Err : goal.returns-in-Err
returns-in-Err g c = took_end _ _ _ _ _ _ _ _ _ _ _ _ _ _ _ c.loop.invariant (omega arith) c.in-Err.ensures

pub loop-preserved : goal.loop-preserved
loop-preserved g c = took_one _ _ _ _ _ _ _ _ _ _ _ _ _ c.loop.invariant (rw c.in-Ok-Text.field-0-is at c.in-Ok-Text.ensures)

pub returns : goal.returns
returns g c = took_all _ _ _ _ _ _ _ _ _ _ c.loop.invariant (omega arith)
