use Rattle.std.proofs.Common.{◌≡◌, Ok, Err, ap, sym, subst}
use Rattle.position_core.specs.declared.fault.Fault.TheVariants.{NoSuchSubscription}
use Rattle.sqlite.specs.Effect.{Database}
use Rattle.sqlite.specs.Held.{state}
use Rattle.sqlite.specs.State.{HasCleanDisk}
use Rattle.stored_cell.specs.Opening.{Opens}
use Rattle.row_store.specs.Keeping.{Keeping}
use Rattle.row_store.proofs.Restarting.{keeps_nothing, opens_found, opens_itself}
use Rattle.row_store.proofs.topics.open_cell.Goals as goal

pub noted-requires-clause-opens : goal.noted-requires-clause-opens
noted-requires-clause-opens g c = λ clean shown.
    let old = state g.S.Store c.args.keeper.now.conn in
    let new = state g.S.Store c.load.new.self.conn in
    let cell = c.in-Ok-opened_cell.cell in
    let opens = opens_found c.args.name.now c.args.terms old.now.trees new c.in-Ok.loaded (Ok cell) (c.in-Ok.ensures.rows clean) c.in-Ok.ensures.kept c.in-Ok-opened_cell.ensures.opens in (
      c.args.terms,
      subst (λ (db : Database). Opens cell.cell.state.name c.args.terms db.trees cell) (sym (c.in-Ok.ensures.same clean shown))
          (opens_itself c.args.name.now c.args.terms old.now.trees cell opens),
    )

pub returns-in-Ok-noted-clause-opens : goal.returns-in-Ok-noted-clause-opens
returns-in-Ok-noted-clause-opens g c = λ clean.
    let old = state g.S.Store c.args.keeper.now.conn in
    let new = state g.S.Store c.load.new.self.conn in
    let early = subst (λ (k : Keeping _). HasCleanDisk (state g.S.Store k.conn)) c.noted.ensures.same clean in
    let opens = opens_found c.args.name.now c.args.terms old.now.trees new c.in-Ok.loaded (Ok c.in-Ok-opened_cell.cell) (c.in-Ok.ensures.rows early) c.in-Ok.ensures.kept c.in-Ok-opened_cell.ensures.opens in
    subst (Opens c.args.name.now c.args.terms old.now.trees) (sym c.in-Ok-noted.ensures.cell) opens

pub returns-in-Err-opened_cell-clause-unknown : goal.returns-in-Err-opened_cell-clause-unknown
returns-in-Err-opened_cell-clause-unknown g c = λ clean refused.
    let fault : c.in-Err-opened_cell.fault ≡ NoSuchSubscription = cc in
    let why = c.in-Err-opened_cell.ensures.unknown.0 (ap Err fault) in
    (why.0, keeps_nothing c.args.name.now (state g.S.Store c.args.keeper.now.conn).now.trees c.in-Ok.loaded (c.in-Ok.ensures.rows clean) why.1)
