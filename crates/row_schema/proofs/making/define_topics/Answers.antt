use Rattle.std.proofs.Common.{arith}
use Rattle.std.proofs.lemmas.Result.{on_ok_weaker}
use Rattle.sqlite.specs.State.{HasCleanDisk}
use Rattle.sqlite.specs.Held.{state}
use Rattle.row_forms.specs.Schema.{schema_0, schema_1, schema_2, schema_3}
use Rattle.row_schema.proofs.TextLemmas.{meta_leads, topic_leads, entry_leads}
use Rattle.row_schema.proofs.MakingLemmas.{makes, makes_then}
use Rattle.row_schema.proofs.making.define_topics.Goals as goal

pub returns-clause-done : goal.returns-clause-done
returns-clause-done g c clean =
    let start = state g.S.Store c.args.tx.now.conn.now in
    let one = state g.S.Store c.define.new.tx.conn.now in
    let two = state g.S.Store c.define-2.new.tx.conn.now in
    let last = state g.S.Store c.define-3.new.tx.conn.now in
    let late : HasCleanDisk two = omega (arith, c.define-3.ensures.survives.clean) in
    let early : HasCleanDisk one = omega (arith, c.define-2.ensures.survives.clean) in
    let p = makes meta_leads start one (c.in_ok-define.ensures.done early schema_0 schema_1 meta_leads) in
    let q = makes topic_leads one two (c.in_ok-define-2.ensures.done late schema_1 schema_2 topic_leads) in
    on_ok_weaker c.define-3.result (λ made. makes_then start two last (makes_then start one two p q) (makes entry_leads two last (made schema_2 schema_3 entry_leads))) (c.define-3.ensures.done clean)
