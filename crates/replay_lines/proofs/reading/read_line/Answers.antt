use Rattle.std.proofs.Common.{arith}
use Rattle.replay_lines.proofs.ByWords.{by_words}
use Rattle.replay_lines.proofs.reading.read_line.Goals as goal

pub returns : goal.returns
returns c =
    by_words c.args.this.now c.args.line.now _ (omega (arith, c.if-line-gt-LONGEST_LINE.false)) (rw (c.of.ensures) at c.read_words.ensures)
