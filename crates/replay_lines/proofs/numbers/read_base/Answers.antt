use Rattle.std.proofs.lemmas.Bool.{false≢true}
use Rattle.std.proofs.lemmas.Result.{err_from_is_err_and}
use Rattle.replay_lines.proofs.BaseLemmas.{no_base, large_is_no_base}
use Rattle.replay_lines.proofs.numbers.read_base.Goals as goal

pub returns-in_err-number : goal.returns-in_err-number
returns-in_err-number c =
    let p = err_from_is_err_and c.from_residual.result c.from_residual.ensures.1 in
    rw (p.1, p.2) (no_base _ _ (λ e. false≢true (c.if-is_none.ensures.1 e)) c.in_err-number.ensures)

pub returns-then-number-gt4611686018427387904 : goal.returns-then-number-gt4611686018427387904
returns-then-number-gt4611686018427387904 c =
    large_is_no_base c.args.word.now c.in_ok-number.number (λ e. false≢true (c.if-is_none.ensures.1 e)) c.in_ok-number.ensures c.if-number-gt4611686018427387904.true
