use Rattle.std.proofs.Common.{arith, ap, sym, ◌∙◌, subst, IfSome}
use Rattle.std.specs.Prelude.{option_map}
use Rattle.sqlite.specs.Effect.{Database}
use Rattle.sqlite.specs.State.{HasCleanDisk}
use Rattle.sqlite.specs.Held.{state}
use Rattle.delivery_machine.specs.Places.{KeptTopic, MayRestart}
use Rattle.row_forms.specs.Standing.{HasNone, Stands}
use Rattle.row_reading.specs.Reading.{MayBeTold}
use Rattle.position_core.specs.TopicName.{topic_text}
use Rattle.row_store.specs.Begun.{StandsSoFar, begun_by, begun_of, kept_by}
use Rattle.row_store.proofs.Standing.{begun_after, has_many, kept_stands}
use Rattle.row_store.proofs.Unfound.{is_found, nothing_found}
use Rattle.row_store.proofs.Storing.{holds_through, kept_through}
use Rattle.row_store.proofs.keeper.Keeper.load.Goals as goal

pub invariant_of-self : goal.invariant_of-self
invariant_of-self g c =
    let k = c.self.inside in
    let held = c.self.invariant in
    let e = c.find.ensures in
    holds_through g.S.Store k.conn c.find.new.conn k.failed k.known.items c.reading_for-reading.new.reading held.0 held.1
    (λ working clean shown. (c.reading_for-reading.ensures.stands _ (held.2 working clean shown)).1) e.autocommit e.crash e.kept e.was_open

pub invariant_of-self-in-Ok-Nothing : goal.invariant_of-self-in-Ok-Nothing
invariant_of-self-in-Ok-Nothing g c =
    let k = c.self.inside in
    let held = c.self.invariant in
    let e = c.find.ensures in
    holds_through g.S.Store k.conn c.find.new.conn k.failed k.known.items c.reading_for-reading.new.reading held.0 held.1
    (λ working clean shown. (c.reading_for-reading.ensures.stands _ (held.2 working clean shown)).1) e.autocommit e.crash e.kept e.was_open

pub invariant_of-self-in-Ok-BadRows : goal.invariant_of-self-in-Ok-BadRows
invariant_of-self-in-Ok-BadRows g c =
    let k = c.self.inside in
    let held = c.self.invariant in
    let e = c.find.ensures in
    holds_through g.S.Store k.conn c.find.new.conn k.failed k.known.items c.reading_for-reading.new.reading held.0 held.1
    (λ working clean shown. (c.reading_for-reading.ensures.stands _ (held.2 working clean shown)).1) e.autocommit e.crash e.kept e.was_open

pub invariant_of-self-in-Err-NoMemory : goal.invariant_of-self-in-Err-NoMemory
invariant_of-self-in-Err-NoMemory g c =
    let k = c.self.inside in
    let held = c.self.invariant in
    let e = c.find.ensures in
    holds_through g.S.Store k.conn c.find.new.conn k.failed k.known.items c.reading_for-reading.new.reading held.0 held.1
    (λ working clean shown. (c.reading_for-reading.ensures.stands _ (held.2 working clean shown)).1) e.autocommit e.crash e.kept e.was_open

pub invariant_of-self-in-Err-Store : goal.invariant_of-self-in-Err-Store
invariant_of-self-in-Err-Store g c =
    let k = c.self.inside in
    let held = c.self.invariant in
    let e = c.find.ensures in
    holds_through g.S.Store k.conn c.find.new.conn k.failed k.known.items c.reading_for-reading.new.reading held.0 held.1
    (λ working clean shown. (c.reading_for-reading.ensures.stands _ (held.2 working clean shown)).1) e.autocommit e.crash e.kept e.was_open

pub invariant_of-self-in-Ok-More : goal.invariant_of-self-in-Ok-More
invariant_of-self-in-Ok-More g c =
    let k = c.self.inside in
    let old = state g.S.Store k.conn in (
      kept_through g.S.Store k.conn c.find.new.conn k.failed k.known.items c.self.invariant.0 c.find.ensures.autocommit c.find.ensures.crash.clean c.find.ensures.kept c.find.ensures.was_open c.find.ensures.crash.crash,
      c.self.invariant.1,
      λ working clean shown.
          let new = (state g.S.Store c.find.new.conn).now.trees in
          let early : HasCleanDisk old = omega (arith, c.find.ensures.crash.clean, clean) in
          let was = c.find.ensures.was_open clean shown in
          let ready = c.self.invariant.0.ready working early was in
          let before = c.reading_for-reading.ensures.stands old.now.trees (c.self.invariant.2 working early was) in
          let there : StandsSoFar old.now.trees c.in-Ok-More.reading = (rw c.in-Ok-More.field-0-is at (c.in-Ok-More.ensures.found clean)) ready before.0 in
          let both = kept_stands c.args.pace c.in-Ok-More.reading c.reading_for-reading.new.reading old.now.trees before.1 there in
          subst (λ o. IfSome o (StandsSoFar new)) (sym c.keep_reading.ensures)
          (subst (λ (db : Database). IfSome (kept_by c.args.pace c.in-Ok-More.reading c.reading_for-reading.new.reading) (StandsSoFar db.trees)) (sym (c.find.ensures.kept clean shown)) both),
    )

pub returns-in-Ok-More-clause-goes_on : goal.returns-in-Ok-More-clause-goes_on
returns-in-Ok-More-clause-goes_on g c = λ _.
    let named = rw c.in-Ok-More.field-0-is at c.in-Ok-More.ensures.told in
    let many = rw c.in-Ok-More.field-0-is at c.in-Ok-More.ensures.count in
    let after = begun_after c.args.pace c.args.name.now c.in-Ok-More.reading c.reading_for-reading.new.reading (option_map begun_of c.self.inside.reading) _ c.reading_for-reading.ensures.left named c.reading_for-reading.ensures.count many in
    rw (← c.self.view_is) (ap (option_map begun_of) c.keep_reading.ensures ∙ after)

pub returns-in-Ok-More-clause-many : goal.returns-in-Ok-More-clause-many
returns-in-Ok-More-clause-many g c = λ clean _.
    let old = state g.S.Store c.self.inside.conn in
    let early : HasCleanDisk old = omega (arith, c.find.ensures.crash.clean, clean) in
    let was = c.in-Ok-More.ensures.shown clean in
    let ready = c.self.invariant.0.ready c.if-self.false early was in
    let before = (c.reading_for-reading.ensures.stands old.now.trees (c.self.invariant.2 c.if-self.false early was)).0 in
    let there : StandsSoFar old.now.trees c.in-Ok-More.reading = (rw c.in-Ok-More.field-0-is at (c.in-Ok-More.ensures.found clean)) ready before in
    let named = rw c.in-Ok-More.field-0-is at c.in-Ok-More.ensures.told in
    let many = rw c.in-Ok-More.field-0-is at c.in-Ok-More.ensures.count in
    rw (← c.self.view_is) (has_many c.args.name.now c.in-Ok-More.reading old.now.trees _ named many there)

pub returns-in-Ok-More-clause-others : goal.returns-in-Ok-More-clause-others
returns-in-Ok-More-clause-others g c = λ at_once.
    let named = rw c.in-Ok-More.field-0-is at c.in-Ok-More.ensures.told in
    let many = rw c.in-Ok-More.field-0-is at c.in-Ok-More.ensures.count in
    let begun = option_map begun_of c.self.inside.reading in
    let after = begun_after c.args.pace c.args.name.now c.in-Ok-More.reading c.reading_for-reading.new.reading begun _ c.reading_for-reading.ensures.left named c.reading_for-reading.ensures.count many in
    rw (← c.self.view_is) (ap (option_map begun_of) c.keep_reading.ensures ∙ (after ∙ ap (λ p. begun_by p c.args.name.now begun) at_once))

pub returns-in-Ok-Nothing-clause-found : goal.returns-in-Ok-Nothing-clause-found
returns-in-Ok-Nothing-clause-found g c = λ clean.
    let k = c.self.inside in
    let old = state g.S.Store k.conn in
    let early : HasCleanDisk old = omega (arith, c.find.ensures.crash.clean, clean) in
    let ready = c.self.invariant.0.ready c.if-self.false early (c.in-Ok-Nothing.ensures.shown clean) in
    let before = (c.reading_for-reading.ensures.stands old.now.trees (c.self.invariant.2 c.if-self.false early (c.in-Ok-Nothing.ensures.shown clean))).0 in
    let none : HasNone (topic_text c.args.name.now) old.now.trees = rw c.in-Ok-Nothing.field-0-is at (c.in-Ok-Nothing.ensures.found clean ready before) in
    rw (← c.self.view_is) (nothing_found c.args.name.now old.now.trees none)

pub know_loaded-requires-clause-stands : goal.know_loaded-requires-clause-stands
know_loaded-requires-clause-stands g c = λ clean shown.
    let k = c.self.inside in
    let old = state g.S.Store k.conn in
    let early : HasCleanDisk old = omega (arith, c.find.ensures.crash.clean, clean) in
    let ready = c.self.invariant.0.ready c.if-self.false early (c.in-Ok-Whole.ensures.shown clean) in
    let before = (c.reading_for-reading.ensures.stands old.now.trees (c.self.invariant.2 c.if-self.false early (c.in-Ok-Whole.ensures.shown clean))).0 in
    let there : Stands c.in-Ok-Whole.snapshot old.now.trees = rw c.in-Ok-Whole.field-0-is at (c.in-Ok-Whole.ensures.found clean ready before) in
    subst (λ (db : Database). Stands c.in-Ok-Whole.snapshot db.trees) (sym (c.find.ensures.kept clean shown)) there

pub returns-in-Ok-know_loaded-clause-rows : goal.returns-in-Ok-know_loaded-clause-rows
returns-in-Ok-know_loaded-clause-rows g c = λ clean.
    let k = c.self.inside in
    let old = state g.S.Store k.conn in
    let late = subst (λ v. HasCleanDisk (state g.S.Store v)) c.know_loaded.ensures.same.0 clean in
    let early : HasCleanDisk old = omega (arith, c.find.ensures.crash.clean, late) in
    let ready = c.self.invariant.0.ready c.if-self.false early (c.in-Ok-Whole.ensures.shown late) in
    let before = (c.reading_for-reading.ensures.stands old.now.trees (c.self.invariant.2 c.if-self.false early (c.in-Ok-Whole.ensures.shown late))).0 in
    let there : Stands c.in-Ok-Whole.snapshot old.now.trees = rw c.in-Ok-Whole.field-0-is at (c.in-Ok-Whole.ensures.found late ready before) in
    let told = rw c.in-Ok-Whole.field-0-is at c.in-Ok-Whole.ensures.told in
    let same = c.in-Ok-know_loaded.ensures.snapshot in
    rw (← c.self.view_is) (ap (λ (s : KeptTopic). s.name) same ∙ told.0, subst (λ s. Stands s old.now.trees) (sym same) there)

pub returns-in-Ok-know_loaded-clause-told : goal.returns-in-Ok-know_loaded-clause-told
returns-in-Ok-know_loaded-clause-told g c =
    let told = rw c.in-Ok-Whole.field-0-is at c.in-Ok-Whole.ensures.told in
    subst (λ s. MayRestart s × MayBeTold s) (sym c.in-Ok-know_loaded.ensures.snapshot) (told.1, told.2)

pub returns-in-Ok-know_loaded-clause-named : goal.returns-in-Ok-know_loaded-clause-named
returns-in-Ok-know_loaded-clause-named g c =
    let told = rw c.in-Ok-Whole.field-0-is at c.in-Ok-Whole.ensures.told in
    ap (λ (s : KeptTopic). s.name) c.in-Ok-know_loaded.ensures.snapshot ∙ told.0

pub returns-in-Ok-know_loaded-clause-found : goal.returns-in-Ok-know_loaded-clause-found
returns-in-Ok-know_loaded-clause-found g c = λ clean.
    let k = c.self.inside in
    let old = state g.S.Store k.conn in
    let late = subst (λ v. HasCleanDisk (state g.S.Store v)) c.know_loaded.ensures.same.0 clean in
    let early : HasCleanDisk old = omega (arith, c.find.ensures.crash.clean, late) in
    let ready = c.self.invariant.0.ready c.if-self.false early (c.in-Ok-Whole.ensures.shown late) in
    let before = (c.reading_for-reading.ensures.stands old.now.trees (c.self.invariant.2 c.if-self.false early (c.in-Ok-Whole.ensures.shown late))).0 in
    let there : Stands c.in-Ok-Whole.snapshot old.now.trees = rw c.in-Ok-Whole.field-0-is at (c.in-Ok-Whole.ensures.found late ready before) in
    let told = rw c.in-Ok-Whole.field-0-is at c.in-Ok-Whole.ensures.told in
    rw (← c.self.view_is) (is_found c.args.name.now old.now.trees c.in-Ok-Whole.snapshot c.in-Ok-know_loaded.loaded.snapshot c.in-Ok-know_loaded.ensures.snapshot told.0 there told.1 told.2)
