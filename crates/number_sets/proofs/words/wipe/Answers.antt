use Rattle.number_sets.proofs.Bits.{has_zeros, used_zeros}
use Rattle.number_sets.proofs.words.wipe.Goals as goal

pub returns-clause-has : goal.returns-clause-has
returns-clause-has c = rw (c.fill.ensures.after (λ y same. same)) (has_zeros _)

pub returns-clause-used : goal.returns-clause-used
returns-clause-used c = rw (c.fill.ensures.after (λ y same. same)) (used_zeros _)
