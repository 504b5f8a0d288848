use Rattle.std.proofs.Common.{◌≡◌, ℕ, ◌-◌, subst, arith}
use Rattle.std.proofs.lemmas.List.{get_or_default}
use Rattle.pending_core.specs.Counts.{number_at, ConsumersRise, NumberChanges}
use Rattle.pending_core.proofs.Numbering.{number_there, none_to_take}
use Rattle.pending_core.proofs.counts.Counts.count_one_less.Goals as goal

pub returns-in-Ok : goal.returns-in-Ok
returns-in-Ok c =
    let value = number_there _ (subst ConsumersRise c.self.view_is c.self.invariant) _ _ c.in-Ok.ensures.found in
    let read = get_or_default _ _ c.index.result.now (0, 0) c.in-Ok.ensures.found.within in
    let less : c.saturating_sub-less.result ≡ number_at c.args.self.now c.args.consumer - 1 = grind (arith, c.self.view_is) in
    subst (λ (n : ℕ). NumberChanges c.args.consumer n c.args.self.now c.set.new.self) less c.set.ensures

pub returns-in-Err : goal.returns-in-Err
returns-in-Err c = none_to_take _ _ _ c.in-Err.ensures.absent
