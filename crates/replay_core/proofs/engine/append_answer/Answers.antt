use Rattle.std.proofs.Common.{inr}
use Rattle.std.proofs.lemmas.Result.{on_ok_weaker}
use Rattle.replay_core.proofs.Standings.{answered_line, not_bad}
use Rattle.replay_core.proofs.engine.append_answer.Goals as goal

pub returns-in-Ok-clause-ok : goal.returns-in-Ok-clause-ok
returns-in-Ok-clause-ok g c =
    let done = c.append_said.ensures.answered in
    let stands = answered_line c.args.name.now c.args.line.now c.in-Ok.said done.0 c.in-Ok.ensures done.1 in
    on_ok_weaker c.append_said.result (λ text. (done.0, (stands, done.2), text)) done.3

pub returns-in-Ok-clause-bad : goal.returns-in-Ok-clause-bad
returns-in-Ok-clause-bad g c = λ e. absurd (not_bad c.append_said.result c.append_said.ensures.err e)

pub returns-in-Ok-clause-kept : goal.returns-in-Ok-clause-kept
returns-in-Ok-clause-kept g c = λ e. absurd (not_bad c.append_said.result c.append_said.ensures.err e)

pub returns-in-Ok-clause-memory : goal.returns-in-Ok-clause-memory
returns-in-Ok-clause-memory g c =
    let done = c.append_said.ensures.answered in
    λ e. inr (done.0, (answered_line c.args.name.now c.args.line.now c.in-Ok.said done.0 c.in-Ok.ensures done.1, done.2))
