use Rattle.std.proofs.Common.{◌≡◌, false, ap, sym, ◌∙◌, arith}
use Rattle.sqlite.specs.Effect.{Database}
use Rattle.sqlite.specs.Held.{state}
use Rattle.sqlite_trees.specs.View.{IsClean}
use Rattle.row_schema.proofs.ReadingLemmas.{keyed_in, fresh_from, committed_from, was_open_from, one_schema}
use Rattle.row_schema.proofs.reopening.reopen.Goals as goal

pub over-requires : goal.over-requires
over-requires g c clean =
    fresh_from (g.S.Store.view c.args.conn.store) (g.S.Store.view c.into_store-store.result) c.into_store-store.ensures.undone clean (sym (c.is_broken.ensures clean) ∙ c.if-is_broken.false)
    (g.met.S.Store.broken_if_shut c.into_store-store.result) (c.into_store-store.ensures.numbered clean)

pub returns-in-Ok-clause-keyed : goal.returns-in-Ok-clause-keyed
returns-in-Ok-clause-keyed g c clean =
    let v = g.S.Store.view c.into_store-store.result in
    let early : IsClean v = omega (arith, c.in-Ok.ensures.clean) in
    let sound : v.is_broken ≡ false = sym (c.is_broken.ensures early) ∙ c.if-is_broken.false in
    let opens = c.in-Ok.ensures.opens clean in
    keyed_in v (state g.S.Store c.in-Ok.again).now (c.in-Ok.ensures.trees clean) (opens.1 opens.0.is_open).0 (g.met.S.Alter.listed c.into_store-store.result sound) (g.met.S.Store.ordered c.into_store-store.result sound)

pub returns-in-Ok-clause-same : goal.returns-in-Ok-clause-same
returns-in-Ok-clause-same g c clean =
    let v = g.S.Store.view c.into_store-store.result in
    let early : IsClean v = omega (arith, c.in-Ok.ensures.clean) in
    let sound : v.is_broken ≡ false = sym (c.is_broken.ensures early) ∙ c.if-is_broken.false in
    c.in-Ok.ensures.trees clean ∙ committed_from (g.S.Store.view c.args.conn.store) v c.into_store-store.ensures.undone sound (g.met.S.Store.broken_if_shut c.into_store-store.result)

pub returns-in-Ok-clause-crash : goal.returns-in-Ok-clause-crash
returns-in-Ok-clause-crash g c clean db left =
    let opens = c.in-Ok.ensures.opens clean in
    g.met.S.Store.settled c.in-Ok.again.store db opens.0.is_open left ∙ sym (ap (λ (d : Database). d.trees) opens.0.clean)

pub returns-in-Ok-clause-schema : goal.returns-in-Ok-clause-schema
returns-in-Ok-clause-schema g c clean =
    let v = g.S.Store.view c.into_store-store.result in
    let early : IsClean v = omega (arith, c.in-Ok.ensures.clean) in
    let sound : v.is_broken ≡ false = sym (c.is_broken.ensures early) ∙ c.if-is_broken.false in
    let old = state g.S.Store c.args.conn in
    let new = state g.S.Store c.in-Ok.again in
    let opens = c.in-Ok.ensures.opens clean in
    let same : new.now.trees ≡ old.committed.trees = c.in-Ok.ensures.trees clean ∙ committed_from (g.S.Store.view c.args.conn.store) v c.into_store-store.ensures.undone sound (g.met.S.Store.broken_if_shut c.into_store-store.result) in
    let was = was_open_from (g.S.Store.view c.args.conn.store) v c.into_store-store.ensures.undone early sound (g.met.S.Store.broken_if_shut c.into_store-store.result) in
    one_schema new.now old.committed same (opens.1 opens.0.is_open).0 (c.schema.ensures.live was).1
