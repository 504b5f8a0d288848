use Rattle.std.proofs.Common.{ap, refl, sym, subst, ◌∙◌}
use Rattle.std.proofs.lemmas.Result.{IfOk-weaker}
use Rattle.sqlite.specs.Tree.{Trees}
use Rattle.sqlite.specs.Held.{state}
use Rattle.row_reading.specs.declared.topic_row.Head.{Head}
use Rattle.row_reading.specs.declared.retention_rows.Front.{Front}
use Rattle.row_reading.specs.Reading.{IsReadableLog, span_read}
use Rattle.row_store.specs.Begun.{HasSpan}
use Rattle.row_store.specs.Found.{HasLog}
use Rattle.row_store.proofs.Storing.{goes_on, ok_under}
use Rattle.row_store.proofs.finding.go_on.Goals as goal

pub returns-in-Ok-None-clause-found : goal.returns-in-Ok-None-clause-found
returns-in-Ok-None-clause-found g c =
    let db : Trees = (state g.S.Store c.args.tx.now.conn.now).now.trees in
    rw (← c.reading.view_is) (λ clean ready stands. goes_on _ _ c.as_str.result.now db (c.as_str.ensures.value ∙ c.reading.invariant.0) refl refl stands ((rw c.in-Ok-None.field-0-is at (c.in-Ok-None.ensures.more clean)) ready))

pub returns-in-Ok-Some-clause-found : goal.returns-in-Ok-Some-clause-found
returns-in-Ok-Some-clause-found g c =
    let db : Trees = (state g.S.Store c.args.tx.now.conn.now).now.trees in
    let is = c.as_str.ensures.value ∙ c.reading.invariant.0 in
    rw (← c.reading.view_is) (λ clean.
    let whole = rw c.in-Ok-Some.field-0-is at (c.in-Ok-Some.ensures.whole clean) in
    let reads = rw c.in-Ok-Some.field-0-is at (c.in-Ok-Some.ensures.all_read clean) in
    ok_under c.found_of-found.result _ (λ ready stands.
    let below = subst (λ t. HasSpan t (span_read c.reading.inside.reader) db) (sym is) stands.below in
    c.found_of-found.ensures.found db stands.sides stands.sorted (λ yes. subst (λ t. HasLog t c.read_more.new.reader.front.gone c.read_more.new.reader.log db) is (whole yes ready below))
    (λ all readable has. reads ready below all (subst (λ (h : Head). IsReadableLog h.ledger_size h.ledger all) c.in-Ok-Some.ensures.head readable) (subst (λ n. HasLog c.as_str.result.now n all db) (ap (λ (f : Front). f.gone) c.in-Ok-Some.ensures.front) (subst (λ t. HasLog t c.read_more.new.reader.front.gone all db) (sym is) has)))))

pub returns-in-Ok-Some-clause-count : goal.returns-in-Ok-Some-clause-count
returns-in-Ok-Some-clause-count g c = IfOk-weaker c.found_of-found.result _ _ (λ found any. any _) c.found_of-found.ensures.count
