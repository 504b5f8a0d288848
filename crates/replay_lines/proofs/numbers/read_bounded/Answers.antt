use Rattle.std.proofs.Common.{arith}
use Rattle.std.proofs.lemmas.Bool.{false≢true}
use Rattle.value_texts.proofs.LastDigits.{one_number}
use Rattle.replay_lines.proofs.numbers.read_bounded.Goals as goal

pub returns-then-number-gt4294967295 : goal.returns-then-number-gt4294967295
returns-then-number-gt4294967295 g c =
    λ n is.
    let most = g.MOST.fits in
    let same = one_number c.args.word.now n c.in_ok-number.number (omega (arith, is.1, most)) c.in_ok-number.ensures.0 is.2 c.in_ok-number.ensures.1 in
    omega (arith, same, is.1, most, c.if-number-gt4294967295.true)

pub returns-in-None : goal.returns-in-None
returns-in-None g c =
    λ n is.
    let most = g.MOST.fits in
    let same = one_number c.args.word.now n c.in_ok-number.number (omega (arith, is.1, most)) c.in_ok-number.ensures.0 is.2 c.in_ok-number.ensures.1 in
    false≢true (c.in-None.ensures.fits.1 (omega (arith, same, is.0), omega (arith, same, is.1)))
