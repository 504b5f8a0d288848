use Rattle.std.proofs.Common.{◌≡◌, ◌∙◌, All, List, [], ◌∷◌, not, ap, subst, sym, arith}
use Rattle.std.specs.Prelude.{option_map}
use Rattle.std.proofs.lemmas.List.Elements.{All-filter}
use Rattle.position_core.specs.TopicName.{same_topic, topic_text}
use Rattle.sqlite.specs.State.{HasCleanDisk}
use Rattle.sqlite.specs.Held.{state}
use Rattle.delivery_machine.specs.Places.{KeptTopic}
use Rattle.row_forms.specs.Standing.{Stands}
use Rattle.row_rounds.specs.Rounds.{AreApart, IsNamed}
use Rattle.row_store.specs.Begun.{begun_of, begun_without}
use Rattle.row_store.specs.Keeping.{known_without}
use Rattle.row_store.proofs.Deletions.{alone_apart, alone_named, one_leaves, one_or_before, one_stores, one_went, others_stand}
use Rattle.row_store.proofs.Standing.{begun_left, read_beside}
use Rattle.row_store.proofs.keeper.Keeper.delete.Goals as goal

pub save-requires-clause-named : goal.save-requires-clause-named
save-requires-clause-named g c = subst (All IsNamed) (sym c.from_ref-2.ensures.value) (alone_named c.in-Ok.write c.in-Ok.ensures.named)

pub save-requires-clause-apart : goal.save-requires-clause-apart
save-requires-clause-apart g c = subst AreApart (sym c.from_ref-2.ensures.value) (alone_apart c.in-Ok.write)

pub invariant_of-self-2 : goal.invariant_of-self-2
invariant_of-self-2 g c =
    let k = c.self.inside in
    let old = state g.S.Store k.conn in
    let new = state g.S.Store c.save.new.conn in
    let write = c.in-Ok.write in
    let text = topic_text write.snapshot.name in
    let does = λ (clean : HasCleanDisk new).
    one_went g.S.Store k.conn c.save.new.conn k.failed k.known.items write c.self.invariant.0 c.if-self.false c.in-Ok.ensures.fits _ c.from_ref-2.ensures.value c.save.ensures.crash (c.in-Ok-save.ensures.saved clean) clean in
    let knows = λ (clean : HasCleanDisk new).
    let early : HasCleanDisk old = omega (arith, c.save.ensures.crash.clean, clean) in
    let before = c.self.invariant.0.known c.if-self.false early (c.in-Ok-save.ensures.saved clean).was_shown in
    let left = All-filter (λ (kept : KeptTopic). not (same_topic kept.name write.snapshot.name)) (λ (kept : KeptTopic). Stands kept old.now.trees) k.known.items before in
    let known = subst (All (λ (kept : KeptTopic). Stands kept old.now.trees)) (sym {A = List KeptTopic} c.let_go.ensures.left) left in
    others_stand text old.now.trees new.now.trees c.let_go.new.known.items (does clean).1.others c.let_go.ensures.others known in (
      record {
        autocommit = c.save.ensures.autocommit;
        ready = λ _ clean _. (does clean).0;
        known = λ _ clean _. knows clean;
        settled = λ _ clean _. c.in-Ok-save.ensures.durable clean;
        one = λ _ clean one other left right. c.in-Ok-save.ensures.durable clean one left ∙ sym (c.in-Ok-save.ensures.durable clean other right);
      },
      c.self.invariant.1 ∙ c.if-self.false,
      λ _ clean _.
          let early : HasCleanDisk old = omega (arith, c.save.ensures.crash.clean, clean) in
          let before = c.self.invariant.2 c.if-self.false early (c.in-Ok-save.ensures.saved clean).was_shown in
          read_beside text old.now.trees new.now.trees k.reading c.let_go.new.reading (does clean).1.others c.let_go.ensures.reading c.let_go.ensures.unread before,
    )

pub returns-clause-rows : goal.returns-clause-rows
returns-clause-rows g c = λ clean.
    let k = c.self.inside in
    let same : c.in-Ok.write.snapshot ≡ c.args.deletion = c.in-Ok.ensures.snapshot ∙ c.into_snapshot.ensures in
    rw (← c.self.view_is) (one_stores g.S.Store k.conn c.save.new.conn k.failed k.known.items c.in-Ok.write c.self.invariant.0 c.if-self.false c.in-Ok.ensures.fits _ c.from_ref-2.ensures.value c.save.ensures.crash c.args.deletion same (c.in-Ok-save.ensures.saved clean) clean)

pub returns-clause-crash : goal.returns-clause-crash
returns-clause-crash g c =
    let k = c.self.inside in
    let same : c.in-Ok.write.snapshot ≡ c.args.deletion = c.in-Ok.ensures.snapshot ∙ c.into_snapshot.ensures in
    rw (← c.self.view_is) (one_leaves g.S.Store k.conn c.save.new.conn k.failed k.known.items c.in-Ok.write c.self.invariant.0 c.if-self.false c.in-Ok.ensures.fits _ c.from_ref-2.ensures.value c.save.ensures.crash c.args.deletion same)

pub returns-in-Err-save-clause-crash : goal.returns-in-Err-save-clause-crash
returns-in-Err-save-clause-crash g c =
    let k = c.self.inside in
    let same : c.in-Ok.write.snapshot ≡ c.args.deletion = c.in-Ok.ensures.snapshot ∙ c.into_snapshot.ensures in
    rw (← c.self.view_is) (one_leaves g.S.Store k.conn c.save.new.conn k.failed k.known.items c.in-Ok.write c.self.invariant.0 c.if-self.false c.in-Ok.ensures.fits _ c.from_ref-2.ensures.value c.save.ensures.crash c.args.deletion same)

pub returns-in-Err-save-clause-left : goal.returns-in-Err-save-clause-left
returns-in-Err-save-clause-left g c =
    let k = c.self.inside in
    let same : c.in-Ok.write.snapshot ≡ c.args.deletion = c.in-Ok.ensures.snapshot ∙ c.into_snapshot.ensures in
    rw (← c.self.view_is) (λ _. one_or_before g.S.Store k.conn c.save.new.conn k.failed k.known.items c.in-Ok.write c.self.invariant.0 c.if-self.false c.in-Ok.ensures.fits _ c.from_ref-2.ensures.value c.save.ensures.crash c.args.deletion same)

pub returns-clause-left : goal.returns-clause-left
returns-clause-left g c =
    let k = c.self.inside in
    let same : c.in-Ok.write.snapshot ≡ c.args.deletion = c.in-Ok.ensures.snapshot ∙ c.into_snapshot.ensures in
    rw (← c.self.view_is) (λ _. one_or_before g.S.Store k.conn c.save.new.conn k.failed k.known.items c.in-Ok.write c.self.invariant.0 c.if-self.false c.in-Ok.ensures.fits _ c.from_ref-2.ensures.value c.save.ensures.crash c.args.deletion same)

pub returns-clause-known : goal.returns-clause-known
returns-clause-known g c =
    let same : c.in-Ok.write.snapshot ≡ c.args.deletion = c.in-Ok.ensures.snapshot ∙ c.into_snapshot.ensures in
    rw (← c.self.view_is) (c.let_go.ensures.left ∙ ap (λ (kept : KeptTopic). known_without kept.name c.self.inside.known.items) same)

pub returns-clause-reading : goal.returns-clause-reading
returns-clause-reading g c =
    let same : c.in-Ok.write.snapshot ≡ c.args.deletion = c.in-Ok.ensures.snapshot ∙ c.into_snapshot.ensures in
    let text = topic_text c.in-Ok.write.snapshot.name in
    rw (← c.self.view_is) (ap (option_map begun_of) c.let_go.ensures.reading ∙ (begun_left text c.self.inside.reading ∙ ap (λ (kept : KeptTopic). begun_without (topic_text kept.name) (option_map begun_of c.self.inside.reading)) same))

pub returns-clause-shown : goal.returns-clause-shown
returns-clause-shown g c = λ clean. rw (← c.self.view_is) ((c.in-Ok-save.ensures.saved clean).was_shown, (c.in-Ok-save.ensures.saved clean).shown)
