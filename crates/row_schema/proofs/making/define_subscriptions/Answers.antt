use Rattle.std.proofs.Common.{arith}
use Rattle.std.proofs.lemmas.Result.{on_ok_weaker}
use Rattle.sqlite.specs.State.{HasCleanDisk}
use Rattle.sqlite.specs.Held.{state}
use Rattle.row_forms.specs.Schema.{schema_3, schema_4, schema_5, schema_6, schema_7}
use Rattle.row_schema.proofs.TextLemmas.{sub_leads, ack_leads, dead_leads, redelivery_leads}
use Rattle.row_schema.proofs.MakingLemmas.{makes, makes_then}
use Rattle.row_schema.proofs.making.define_subscriptions.Goals as goal

pub returns-clause-done : goal.returns-clause-done
returns-clause-done g c clean =
    let start = state g.S.Store c.args.tx.now.conn.now in
    let one = state g.S.Store c.define.new.tx.conn.now in
    let two = state g.S.Store c.define-2.new.tx.conn.now in
    let three = state g.S.Store c.define-3.new.tx.conn.now in
    let last = state g.S.Store c.define-4.new.tx.conn.now in
    let latest : HasCleanDisk three = omega (arith, c.define-4.ensures.survives.clean) in
    let late : HasCleanDisk two = omega (arith, c.define-3.ensures.survives.clean) in
    let early : HasCleanDisk one = omega (arith, c.define-2.ensures.survives.clean) in
    let p = makes sub_leads start one (c.in_ok-define.ensures.done early schema_3 schema_4 sub_leads) in
    let q = makes ack_leads one two (c.in_ok-define-2.ensures.done late schema_4 schema_5 ack_leads) in
    let r = makes dead_leads two three (c.in_ok-define-3.ensures.done latest schema_5 schema_6 dead_leads) in
    on_ok_weaker c.define-4.result (λ made. makes_then start three last (makes_then start two three (makes_then start one two p q) r) (makes redelivery_leads three last (made schema_6 schema_7 redelivery_leads))) (c.define-4.ensures.done clean)
