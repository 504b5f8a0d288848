use Rattle.number_sets.proofs.Bits.{first_used, none_used, next_unused}
use Rattle.number_sets.proofs.words.next_used.Goals as goal

pub returns-then-words-index-ne0-clause-some : goal.returns-then-words-index-ne0-clause-some
returns-then-words-index-ne0-clause-some c =
    first_used c.args.words.now c.args.from c.loop-index.index c.loop-index.auto.index c.if-words-index-ne0.true c.loop-index.invariant

pub loop-index-preserved : goal.loop-index-preserved
loop-index-preserved c =
    next_unused c.args.words.now c.args.from c.loop-index.index c.if-words-index-ne0.false c.loop-index.invariant

pub returns-clause-none : goal.returns-clause-none
returns-clause-none c =
    none_used c.args.words.now c.args.from c.loop-index.index c.loop-index-test.false c.loop-index.invariant
