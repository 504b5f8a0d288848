use Rattle.std.proofs.Common.{List, length, sym, subst, arith, ap}
use Rattle.position_core.specs.declared.message.Entry.{Entry}
use Rattle.entry_log.specs.Kept.{IsAt}
use Rattle.entry_log.proofs.Keeping.{at_none}
use Rattle.entry_log.proofs.entry_log.EntryLog.new.Goals as goal

pub invariant_of-result : goal.invariant_of-result
invariant_of-result c = (subst (λ (log : List Entry). IsAt log 0 0) (sym c.new.ensures) at_none, tt, (let none = ap length c.new.ensures in omega (arith, none)))
