use Rattle.entry_log.proofs.Restored.{is_at_its_ledger}
use Rattle.entry_log.proofs.entry_log.EntryLog.restored.Goals as goal

pub invariant_of-result : goal.invariant_of-result
invariant_of-result c = (is_at_its_ledger _ _ c.requires.rising c.requires.before c.requires.bounded, tt, c.requires.short)
