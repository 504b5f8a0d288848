use Rattle.std.proofs.Common.{arith, ◌≡◌, false, All, length, sym, subst, ap, ◌∙◌}
use Rattle.std.specs.Prelude.{IfSome, ◌++◌, filter, not, map, reverse, string_bytes}
use Rattle.std.specs.List.{list_any}
use Rattle.std.specs.Str.{bytes_eq}
use Rattle.std.proofs.lemmas.List.Elements.{All-append}
use Rattle.position_core.specs.TopicName.{topic_text}
use Rattle.sqlite.specs.State.{HasCleanDisk}
use Rattle.sqlite.specs.Held.{state}
use Rattle.delivery_machine.specs.Places.{KeptTopic}
use Rattle.row_forms.specs.Standing.{Stands}
use Rattle.row_rounds.specs.declared.saving.Write.{Write}
use Rattle.row_rounds.specs.Rounds.{AreApart}
use Rattle.stored_cell.specs.Noted.{Noted, StandsAmong, all_rows}
use Rattle.row_store.specs.Begun.{ReadTo}
use Rattle.row_store.specs.Keeping.{kepts}
use Rattle.row_store.proofs.Lists.{all_reversed}
use Rattle.row_store.proofs.Standing.{are_unread, known_is, still_read, still_standing, stores_all}
use Rattle.row_store.proofs.Storing.{all_stored, as_many, leaves, marked_among, shown_is, went}
use Rattle.row_store.proofs.keeper.Keeper.write.Goals as goal

pub save-requires-clause-apart : goal.save-requires-clause-apart
save-requires-clause-apart g c = subst AreApart (sym c.deref-6.ensures.value) c.in-Ok-plan_all.ensures.apart

pub returns-in-Err-save-clause-crash : goal.returns-in-Err-save-clause-crash
returns-in-Err-save-clause-crash g c =
    let k = c.self.inside in
    let fits = rw c.deref-2.ensures.value at c.in-Ok-plan_all.ensures.fits in
    let left = rw c.deref-6.ensures.value at c.save.ensures.crash in
    rw (← c.self.view_is) (leaves g.S.Store k.conn c.save.new.conn k.failed k.known.items c.in-Ok-plan_all.writes.items c.self.invariant.0 c.if-self.false fits c.save.ensures.crash.clean (kepts c.args.parts.items) c.in-Ok-plan_all.ensures.snapshots left)

pub returns-in_default-commit-clause-crash : goal.returns-in_default-commit-clause-crash
returns-in_default-commit-clause-crash g c =
    let k = c.self.inside in
    let fits = rw c.deref-2.ensures.value at c.in-Ok-plan_all.ensures.fits in
    let left = rw c.deref-6.ensures.value at c.save.ensures.crash in
    rw (← c.self.view_is) (leaves g.S.Store k.conn c.save.new.conn k.failed k.known.items c.in-Ok-plan_all.writes.items c.self.invariant.0 c.if-self.false fits c.save.ensures.crash.clean (kepts c.args.parts.items) c.in-Ok-plan_all.ensures.snapshots left)

pub keep_all-requires-clause-stand : goal.keep_all-requires-clause-stand
keep_all-requires-clause-stand g c = λ is_clean.
    let k = c.self.inside in
    let new = state g.S.Store c.save.new.conn in
    let clean = (shown_is new (sym c.in-Some.ensures.clean ∙ is_clean)).0 in
    let fits = rw c.deref-2.ensures.value at c.in-Ok-plan_all.ensures.fits in
    let saves = rw c.deref-6.ensures.value at (c.in-Ok-save.ensures.saved clean) in
    let all = (went g.S.Store k.conn c.save.new.conn k.failed k.known.items c.in-Ok-plan_all.writes.items c.self.invariant.0 c.if-self.false fits c.save.ensures.crash.clean saves clean).1 in
    let stored = stores_all c.in-Ok-plan_all.writes.items (kepts c.args.parts.items) _ new.now.trees c.in-Ok-plan_all.ensures.snapshots all in
    let marks = marked_among c.marks_of.new.marks.items (kepts c.args.parts.items) new.now.trees (c.marks_of.ensures ∙ ap kepts c.deref.ensures.value) stored.each in
    let rows : c.in-Some.rows.rows ≡ all_rows new.now.trees = c.in-Some.ensures.rows ∙ ap (λ db. all_rows db.trees) saves.committed in
    subst (λ r. All (λ (n : Noted). StandsAmong n.kept r) c.deref-7.result.now) (sym rows) (subst (All (λ (n : Noted). StandsAmong n.kept (all_rows new.now.trees))) (sym c.deref-7.ensures.value) marks)

pub invariant_of-self-2 : goal.invariant_of-self-2
invariant_of-self-2 g c =
    let k = c.self.inside in
    let old = state g.S.Store k.conn in
    let new = state g.S.Store c.save.new.conn in
    let writes = c.in-Ok-plan_all.writes.items in
    let fits = rw c.deref-2.ensures.value at c.in-Ok-plan_all.ensures.fits in
    let does = λ (clean : HasCleanDisk new).
    (went g.S.Store k.conn c.save.new.conn k.failed k.known.items writes c.self.invariant.0 c.if-self.false fits c.save.ensures.crash.clean (rw c.deref-6.ensures.value at (c.in-Ok-save.ensures.saved clean)) clean) in
    let knows = λ (clean : HasCleanDisk new).
    let early : HasCleanDisk old = omega (arith, c.save.ensures.crash.clean, clean) in
    let shown = (c.in-Ok-save.ensures.saved clean).was_shown in
    let before = c.self.invariant.0.known c.if-self.false early shown in
    let still = still_standing writes old.now.trees new.now.trees k.known.items c.in-Ok-plan_all.ensures.named (does clean).1.others before in
    let stored = (stores_all writes (kepts c.args.parts.items) old.now.trees new.now.trees c.in-Ok-plan_all.ensures.snapshots (does clean).1).each in
    let left = rw c.deref-8.ensures.value at c.forget.ensures.left in
    let forgot = left ∙ ap (filter (λ (kept : KeptTopic). not (list_any (λ (w : Write). bytes_eq (string_bytes w.topic) (topic_text kept.name)) writes))) c.reserve.ensures.items in
    let is = c.remember.ensures ∙ ap (λ l. l ++ reverse (map (λ (w : Write). w.snapshot) writes)) forgot in
    subst (All (λ (kept : KeptTopic). Stands kept new.now.trees)) (sym is) (All-append (λ (kept : KeptTopic). Stands kept new.now.trees) _ (reverse (map (λ (w : Write). w.snapshot) writes)) still (all_reversed (λ (kept : KeptTopic). Stands kept new.now.trees) _ (subst (All (λ (kept : KeptTopic). Stands kept new.now.trees)) (sym c.in-Ok-plan_all.ensures.snapshots) stored))) in (
      record {
        autocommit = c.save.ensures.autocommit;
        ready = λ _ clean _. (does clean).0;
        known = λ _ clean _. knows clean;
        settled = λ _ clean _. c.in-Ok-save.ensures.durable clean;
        one = λ _ clean one other left right. c.in-Ok-save.ensures.durable clean one left ∙ sym (c.in-Ok-save.ensures.durable clean other right);
      },
      c.self.invariant.1 ∙ c.if-self.false,
      λ _ clean _.
          let early : HasCleanDisk old = omega (arith, c.save.ensures.crash.clean, clean) in
          let before = c.self.invariant.2 c.if-self.false early (c.in-Ok-save.ensures.saved clean).was_shown in
          still_read k.reading writes old.now.trees new.now.trees c.in-Ok-plan_all.ensures.named (does clean).1.others (subst (λ l. IfSome k.reading (λ (r : ReadTo). list_any (λ w. bytes_eq (string_bytes w.topic) (topic_text r.name)) l ≡ false)) c.deref-3.ensures.value (c.reads_one_of.ensures c.if-reads_one_of.false)) before,
    )

pub returns-clause-rows : goal.returns-clause-rows
returns-clause-rows g c = λ clean.
    let k = c.self.inside in
    let fits = rw c.deref-2.ensures.value at c.in-Ok-plan_all.ensures.fits in
    let all = (went g.S.Store k.conn c.save.new.conn k.failed k.known.items c.in-Ok-plan_all.writes.items c.self.invariant.0 c.if-self.false fits c.save.ensures.crash.clean (rw c.deref-6.ensures.value at (c.in-Ok-save.ensures.saved clean)) clean).1 in
    rw (← c.self.view_is) (stores_all c.in-Ok-plan_all.writes.items (kepts c.args.parts.items) (state g.S.Store k.conn).now.trees (state g.S.Store c.save.new.conn).now.trees c.in-Ok-plan_all.ensures.snapshots all)

pub returns-clause-kept : goal.returns-clause-kept
returns-clause-kept g c =
    rw c.deref-7.ensures.value at c.keep_all.ensures
    ∙ all_stored c.marks_of.new.marks.items (kepts c.args.parts.items) c.in-Some.rows.rows c.in-Some.rows.clean (state g.S.Store c.save.new.conn) c.in-Some.ensures.rows c.in-Some.ensures.clean (c.marks_of.ensures ∙ ap kepts c.deref.ensures.value)

pub returns-clause-crash : goal.returns-clause-crash
returns-clause-crash g c =
    let k = c.self.inside in
    let fits = rw c.deref-2.ensures.value at c.in-Ok-plan_all.ensures.fits in
    let left = rw c.deref-6.ensures.value at c.save.ensures.crash in
    rw (← c.self.view_is) (leaves g.S.Store k.conn c.save.new.conn k.failed k.known.items c.in-Ok-plan_all.writes.items c.self.invariant.0 c.if-self.false fits c.save.ensures.crash.clean (kepts c.args.parts.items) c.in-Ok-plan_all.ensures.snapshots left)

pub returns-clause-written : goal.returns-clause-written
returns-clause-written g c = λ clean.
    let k = c.self.inside in
    let old = state g.S.Store k.conn in
    let early : HasCleanDisk old = omega (arith, c.save.ensures.crash.clean, clean) in
    let shown = (c.in-Ok-save.ensures.saved clean).was_shown in
    let fits = rw c.deref-2.ensures.value at c.in-Ok-plan_all.ensures.fits in
    let counts = rw c.deref-5.ensures.value at c.by-written.ensures in
    rw (← c.self.view_is) (c.in-Ok-plan_all.writes.items, c.in-Ok-plan_all.ensures.snapshots, fits old.now.trees (c.self.invariant.0.known c.if-self.false early shown), counts)

pub returns-clause-known : goal.returns-clause-known
returns-clause-known g c =
    let writes = c.in-Ok-plan_all.writes.items in
    let left = rw c.deref-8.ensures.value at c.forget.ensures.left in
    let forgot = left ∙ ap (filter (λ (kept : KeptTopic). not (list_any (λ (w : Write). bytes_eq (string_bytes w.topic) (topic_text kept.name)) writes))) c.reserve.ensures.items in
    rw (← c.self.view_is) (c.remember.ensures ∙ (ap (λ l. l ++ reverse (map (λ (w : Write). w.snapshot) writes)) forgot ∙ known_is writes (kepts c.args.parts.items) c.self.inside.known.items c.in-Ok-plan_all.ensures.named c.in-Ok-plan_all.ensures.snapshots))

pub returns-clause-shown : goal.returns-clause-shown
returns-clause-shown g c = λ clean. rw (← c.self.view_is) ((c.in-Ok-save.ensures.saved clean).was_shown, (c.in-Ok-save.ensures.saved clean).shown)

pub returns-clause-forward : goal.returns-clause-forward
returns-clause-forward g c =
    let forward = rw c.deref-2.ensures.value at c.in-Ok-plan_all.ensures.forward in
    rw (← c.self.view_is) forward

pub returns-clause-unread : goal.returns-clause-unread
returns-clause-unread g c =
    let none = rw c.deref-3.ensures.value at (c.reads_one_of.ensures c.if-reads_one_of.false) in
    rw (← c.self.view_is) (are_unread c.self.inside.reading c.in-Ok-plan_all.writes.items (kepts c.args.parts.items) c.in-Ok-plan_all.ensures.named c.in-Ok-plan_all.ensures.snapshots none)

pub keep_all-requires-clause-room : goal.keep_all-requires-clause-room
keep_all-requires-clause-room g c =
    omega (arith, ap length c.deref-7.ensures.value, as_many c.marks_of.new.marks.items c.args.parts.items (c.marks_of.ensures ∙ ap kepts c.deref.ensures.value), c.in-Ok.ensures.capacity, c.len.ensures)
