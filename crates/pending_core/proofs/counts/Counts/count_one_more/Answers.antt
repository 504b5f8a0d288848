use Rattle.std.proofs.Common.{◌≡◌, ℕ, ◌+◌, subst, arith}
use Rattle.std.proofs.lemmas.List.{get_or_default}
use Rattle.pending_core.specs.Counts.{number_at, ConsumersRise, NumberChanges}
use Rattle.pending_core.proofs.Numbering.{number_there, rise_after_insert, first_counted}
use Rattle.pending_core.proofs.counts.Counts.count_one_more.Goals as goal

pub overflow_add-more : goal.overflow_add-more
overflow_add-more c =
    let value = number_there _ (subst ConsumersRise c.self.view_is c.self.invariant) _ _ c.in-Ok.ensures.found in
    let read = get_or_default _ _ c.index.result.now (0, 0) c.in-Ok.ensures.found.within in
    let n : c.index.result.now.1 ≡ number_at c.args.self.now c.args.consumer = grind (arith, c.self.view_is) in
    omega (arith, n, c.requires)

pub returns-in-Ok-clause-ok : goal.returns-in-Ok-clause-ok
returns-in-Ok-clause-ok c =
    let value = number_there _ (subst ConsumersRise c.self.view_is c.self.invariant) _ _ c.in-Ok.ensures.found in
    let read = get_or_default _ _ c.index.result.now (0, 0) c.in-Ok.ensures.found.within in
    let more : c.index.result.now.1 + 1 ≡ number_at c.args.self.now c.args.consumer + 1 = grind (arith, c.self.view_is) in
    subst (λ (n : ℕ). NumberChanges c.args.consumer n c.args.self.now c.set.new.self) more c.set.ensures

pub invariant_of-self-in-Err : goal.invariant_of-self-in-Err
invariant_of-self-in-Err c = rw c.in_ok-insert-in-Err.ensures.items (rise_after_insert _ _ _ (rw c.self.view_is c.in-Err.ensures.absent) _ c.self.invariant)

pub returns-in_ok-insert-in-Err-clause-ok : goal.returns-in_ok-insert-in-Err-clause-ok
returns-in_ok-insert-in-Err-clause-ok c = rw (c.in_ok-insert-in-Err.ensures.items, c.self.view_is) (first_counted _ _ _ c.in-Err.ensures.absent)
