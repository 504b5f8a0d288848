use Rattle.std.proofs.Common.{◌*◌, ◌/◌, ◌%◌, ◌^◌, arith}
use Rattle.std.specs.Int.{w64, bit_not}
use Rattle.number_sets.proofs.Bits.{take_has, take_past, take_used}
use Rattle.number_sets.proofs.words.take_out.Goals as goal

pub returns-then-index-words-clause-has : goal.returns-then-index-words-clause-has
returns-then-index-words-clause-has c = take_past c.args.words.now c.args.number (omega arith)

pub returns-clause-has : goal.returns-clause-has
returns-clause-has c = take_has c.args.words.now c.args.number (omega arith)

pub returns-clause-used : goal.returns-clause-used
returns-clause-used c =
    take_used c.args.words.now (c.args.number / 64) (bit_not w64 (1 * 2 ^ (c.args.number % 64) % 2 ^ 64)) (omega arith)
