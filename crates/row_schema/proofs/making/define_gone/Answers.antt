use Rattle.std.proofs.Common.{arith}
use Rattle.std.proofs.lemmas.Result.{on_ok_weaker}
use Rattle.sqlite.specs.State.{HasCleanDisk}
use Rattle.sqlite.specs.Held.{state}
use Rattle.row_schema.proofs.TextLemmas.{author_leads, retention_leads}
use Rattle.row_schema.proofs.MakingLemmas.{makes, makes_then}
use Rattle.row_schema.proofs.making.define_gone.Goals as goal

pub returns-clause-done : goal.returns-clause-done
returns-clause-done g c clean =
    let start = state g.S.Store c.args.tx.now.conn.now in
    let mid = state g.S.Store c.define_authors.new.tx.conn.now in
    let last = state g.S.Store c.define_retentions.new.tx.conn.now in
    let early : HasCleanDisk mid = omega (arith, c.define_retentions.ensures.survives.clean) in
    let p = makes author_leads start mid (c.in_ok-define_authors.ensures.done early) in
    on_ok_weaker c.define_retentions.result (λ made. makes_then start mid last p (makes retention_leads mid last made)) (c.define_retentions.ensures.done clean)
