use Rattle.std.proofs.Common.{sym, subst, arith}
use Rattle.std.proofs.lemmas.List.{get_or_default}
use Rattle.pending_core.specs.Counts.{ConsumersRise}
use Rattle.pending_core.proofs.Numbering.{number_there, number_in_gap}
use Rattle.pending_core.proofs.counts.Counts.number.Goals as goal

pub returns-in-Ok : goal.returns-in-Ok
returns-in-Ok c =
    let value = number_there _ (subst ConsumersRise c.self.view_is c.self.invariant) _ _ c.in-Ok.ensures.found in
    let read = get_or_default _ _ c.index.result.now (0, 0) c.in-Ok.ensures.found.within in
    grind (arith, c.self.view_is)

pub returns-in-Err : goal.returns-in-Err
returns-in-Err c = sym (number_in_gap _ _ _ c.in-Err.ensures.absent)
