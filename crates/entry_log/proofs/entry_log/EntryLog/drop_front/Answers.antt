use Rattle.std.proofs.Common.{◌<◌, List, length, ap, sym, subst, arith}
use Rattle.std.proofs.lemmas.List.{length-drop}
use Rattle.position_core.specs.declared.message.Entry.{Entry}
use Rattle.entry_log.specs.Log.{Log}
use Rattle.entry_log.specs.Kept.{IsAt}
use Rattle.entry_log.proofs.Keeping.{at_dropped}
use Rattle.log_pieces.specs.Pieces.{joined}
use Rattle.entry_log.proofs.entry_log.EntryLog.drop_front.Goals as goal

pub invariant_of-self : goal.invariant_of-self
invariant_of-self c =
    let inside = c.self.inside in
    let low : c.args.count < length (joined inside.pieces) = omega (arith, c.requires, ap (λ (q : Log). length q.log) c.self.view_is) in (
      subst (λ (xs : List Entry). IsAt xs inside.current.ledger inside.current.used) (sym c.drop_front.ensures) (at_dropped c.args.count (joined inside.pieces) inside.current.ledger inside.current.used low c.self.invariant.0),
      tt,
      omega (arith, ap (λ (xs : List Entry). length xs) c.drop_front.ensures, length-drop c.args.count (joined inside.pieces), c.self.invariant.2),
    )
