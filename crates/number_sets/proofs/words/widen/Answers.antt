use Rattle.std.proofs.Common.{arith}
use Rattle.number_sets.proofs.Bits.{same_has, same_used, widened}
use Rattle.number_sets.proofs.words.widen.Goals as goal

pub returns-in_ok-resize-clause-has : goal.returns-in_ok-resize-clause-has
returns-in_ok-resize-clause-has c =
    same_has _ _ (widened c.args.words.now.items c.resize.new.self.items c.args.count _ (c.in_ok-resize.ensures.items) (omega arith))

pub returns-in_ok-resize-clause-used : goal.returns-in_ok-resize-clause-used
returns-in_ok-resize-clause-used c =
    same_used _ _ (widened c.args.words.now.items c.resize.new.self.items c.args.count _ (c.in_ok-resize.ensures.items) (omega arith))
