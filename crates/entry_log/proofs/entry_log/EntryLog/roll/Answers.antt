use Rattle.log_pieces.specs.Pieces.{joined}
use Rattle.entry_log.proofs.Keeping.{rolled_at}
use Rattle.entry_log.proofs.entry_log.EntryLog.roll.Goals as goal

pub invariant_of-self : goal.invariant_of-self
invariant_of-self c =
    let inside = c.self.inside in
    (rolled_at (joined inside.pieces) inside.current.ledger inside.current.used c.rolled-self-inside.result.ledger c.rolled-self-inside.result.used c.self.invariant.0 c.rolled-self-inside.ensures.next c.rolled-self-inside.ensures.last, tt, c.self.invariant.2)
