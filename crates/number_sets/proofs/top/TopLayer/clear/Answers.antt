use Rattle.std.proofs.Common.{List, ap, ◌∙◌, ℕ}
use Rattle.number_sets.specs.Bits.{has}
use Rattle.number_sets.proofs.Bits.{has_none}
use Rattle.number_sets.proofs.top.TopLayer.clear.Goals as goal

pub returns-clause-none : goal.returns-clause-none
returns-clause-none c = λ i. ap (λ (ws : List ℕ). has ws i) c.clear.ensures.items ∙ has_none i
