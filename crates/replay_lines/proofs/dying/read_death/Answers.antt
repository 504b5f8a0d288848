use Rattle.std.proofs.lemmas.Result.{err_from_is_err_and}
use Rattle.replay_lines.proofs.Deaths.{no_death}
use Rattle.replay_lines.proofs.dying.read_death.Goals as goal

pub returns-in_err-target : goal.returns-in_err-target
returns-in_err-target c =
    let p = err_from_is_err_and c.from_residual-in_err-target.result c.from_residual-in_err-target.ensures.1 in
    rw (p.1, p.2) (no_death _ _ _ _ c.in_ok-limit.limit _ c.in_ok-limit.ensures c.in_err-target.ensures)
