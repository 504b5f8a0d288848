use Rattle.std.proofs.Common.{[], ◌∷◌, subst, OnOk}
use Rattle.sqlite.specs.Held.{state}
use Rattle.sqlite.specs.Order.{Row}
use Rattle.row_forms.specs.Cells.{ACK}
use Rattle.row_forms.specs.Changes.{ack_cells}
use Rattle.row_rounds.proofs.GoesLemmas.{goes_weaker, takes_alone, adds_alone, grown_cells}
use Rattle.row_tables.specs.Goes.{Goes, Swaps}
use Rattle.row_rounds.proofs.runs.write_side.Goals as goal

pub returns-in-Gone-clause-done : goal.returns-in-Gone-clause-done
returns-in-Gone-clause-done g c clean =
    rw c.in-Gone.is
    (goes_weaker c.remove.result _ _ (takes_alone ACK (ack_cells c.args.topic.now c.in-Gone.old.now ∷ [])) (state g.S.Store c.args.tx.now.conn.now) (state g.S.Store c.remove.new.tx.conn.now) (c.remove.ensures.done clean))

pub returns-in-New-clause-done : goal.returns-in-New-clause-done
returns-in-New-clause-done g c clean =
    rw c.in-New.is
    (goes_weaker c.add.result _ _ (adds_alone ACK (ack_cells c.args.topic.now c.in-New.new.now ∷ [])) (state g.S.Store c.args.tx.now.conn.now) (state g.S.Store c.add.new.tx.conn.now) (c.add.ensures.done clean))

pub returns-in-Both-clause-done : goal.returns-in-Both-clause-done
returns-in-Both-clause-done g c clean =
    let old = c.in-Both.old.now in
    let new = c.in-Both.new.now in
    let one = rw c.in-Both.is at c.requires in
    rw c.in-Both.is
    (subst (λ (row : Row). OnOk c.set_last.result (Goes (Swaps ACK (ack_cells c.args.topic.now old ∷ []) (row ∷ [])) (state g.S.Store c.args.tx.now.conn.now) (state g.S.Store c.set_last.new.tx.conn.now)))
    (grown_cells c.args.topic.now old new one.0 one.1) (c.set_last.ensures.done clean))
