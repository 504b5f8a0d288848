use Rattle.std.proofs.Common.{List, ap, sym, ◌∙◌, ℕ, arith}
use Rattle.number_sets.specs.Bits.{has, is_used}
use Rattle.number_sets.proofs.Bits.{has_none, used_none}
use Rattle.number_sets.proofs.summed.SummedLayer.clear.Goals as goal

pub invariant_of-self : goal.invariant_of-self
invariant_of-self g c = record {
  few = omega (arith, c.clear.ensures.len);
  covered = omega (arith, c.clear.ensures.len);
  summed = λ w. c.clear-2.ensures.none w ∙ sym (ap (λ (ws : List ℕ). is_used ws w) c.clear.ensures.items ∙ used_none w);
}

pub returns-clause-none : goal.returns-clause-none
returns-clause-none g c = λ i. ap (λ (ws : List ℕ). has ws i) c.clear.ensures.items ∙ has_none i
