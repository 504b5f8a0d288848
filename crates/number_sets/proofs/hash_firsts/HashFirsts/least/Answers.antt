use Rattle.std.proofs.Common.{subst}
use Rattle.number_sets.specs.Firsts.{first_at}
use Rattle.number_sets.specs.Nodes.{IsLeastOf}
use Rattle.number_sets.proofs.Ranges.{least_found, none_found}
use Rattle.number_sets.proofs.hash_firsts.HashFirsts.least.Goals as goal

pub returns-clause-some : goal.returns-clause-some
returns-clause-some c =
    rw (← c.self.view_is)
    (least_found c.self.inside.chunks.items c.self.inside.top _ _ c.min-from.result c.min-end.result c.least.result c.self.invariant c.min-end.ensures c.min-from.ensures (subst (λ cs. IsLeastOf (first_at cs) c.min-from.result c.min-end.result c.least.result) c.deref.ensures.value c.least.ensures) c.found.result c.found.ensures)

pub returns-clause-none : goal.returns-clause-none
returns-clause-none c =
    rw (← c.self.view_is)
    (none_found c.self.inside.chunks.items c.self.inside.top _ _ c.min-from.result c.min-end.result c.least.result c.self.invariant c.min-end.ensures c.min-from.ensures (subst (λ cs. IsLeastOf (first_at cs) c.min-from.result c.min-end.result c.least.result) c.deref.ensures.value c.least.ensures) c.found.result c.found.ensures)
