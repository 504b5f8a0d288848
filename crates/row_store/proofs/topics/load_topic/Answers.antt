use Rattle.std.proofs.Common.{ap, sym, subst}
use Rattle.sqlite.specs.Effect.{Database}
use Rattle.sqlite.specs.Held.{state}
use Rattle.sqlite.specs.State.{HasCleanDisk}
use Rattle.delivery_machine.specs.Places.{KeptTopic}
use Rattle.row_forms.specs.Standing.{Stands}
use Rattle.stored_cell.specs.Noted.{Noted}
use Rattle.row_store.specs.Keeping.{Keeping}
use Rattle.row_store.proofs.topics.load_topic.Goals as goal

pub invariant_of-result : goal.invariant_of-result
invariant_of-result g c =
    let new = state g.S.Store c.load.new.self.conn in
    let is = rw c.in-Ok-Some.field-0-is at c.in-Ok-Some.ensures.kept in
    let kept = ap (λ (n : Noted). n.kept) is in (
      kept,
      λ clean.
          let noted = c.in-Ok.ensures.rows clean in
          let found = rw c.in-Ok-Some.field-0-is at (c.in-Ok-Some.ensures.rows noted.0) in
          let stands = subst (λ (db : Database). Stands c.in-Ok-Some.loaded.snapshot db.trees) (sym (c.in-Ok-Some.ensures.same noted.0 noted.1)) found.1 in (
            new.now.trees,
            noted.2,
            subst (λ (k : KeptTopic). Stands k new.now.trees) (sym kept) stands,
          ),
    )

pub returns-in-Ok-clause-rows : goal.returns-in-Ok-clause-rows
returns-in-Ok-clause-rows g c = λ clean.
    let old = state g.S.Store c.args.keeper.now.conn in
    let early = subst (λ (k : Keeping _). HasCleanDisk (state g.S.Store k.conn)) c.note_rows.ensures.same clean in
    let is = rw c.in-Ok-Some.field-0-is at c.in-Ok-Some.ensures.kept in
    let found = rw c.in-Ok-Some.field-0-is at (c.in-Ok-Some.ensures.rows early) in
    subst (λ (k : KeptTopic). Stands k old.now.trees) (sym (ap (λ (n : Noted). n.kept) is)) found.1
