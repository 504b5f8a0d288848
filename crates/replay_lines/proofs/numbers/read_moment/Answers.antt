use Rattle.std.proofs.Common.{arith}
use Rattle.std.proofs.lemmas.Bool.{false≢true}
use Rattle.value_texts.proofs.LastDigits.{one_number}
use Rattle.replay_lines.proofs.numbers.read_moment.Goals as goal

pub returns-in-None : goal.returns-in-None
returns-in-None c =
    λ n is.
    let same = one_number c.args.word.now n c.in_ok-read_number.field-0 (omega (arith, is.0)) c.in_ok-read_number.ensures.0 is.1 c.in_ok-read_number.ensures.1 in
    false≢true (c.in-None.ensures.fits.1 (omega (arith, same, is.0)))
