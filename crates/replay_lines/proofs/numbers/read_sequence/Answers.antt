use Rattle.std.proofs.Common.{arith}
use Rattle.replay_lines.specs.Numbers.{IsSequence}
use Rattle.value_texts.proofs.LastDigits.{one_number}
use Rattle.replay_lines.proofs.numbers.read_sequence.Goals as goal

pub returns-then-number-gt9223372036854775807 : goal.returns-then-number-gt9223372036854775807
unfolding IsSequence
returns-then-number-gt9223372036854775807 c =
    λ z is.
    let same = one_number c.args.word.now is.0 c.in_ok-number.number (omega (arith, is.1)) c.in_ok-number.ensures.0 is.2 c.in_ok-number.ensures.1 in
    omega (arith, same, is.1, c.if-number-gt9223372036854775807.true)
