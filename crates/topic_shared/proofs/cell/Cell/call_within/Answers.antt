use Rattle.std.proofs.Common.{rules, ◌≡◌, ◌+◌, ◌≤◌, length, arith, ap, length-append, sym, ◌∙◌, subst, refl}
use Rattle.delivery_machine.specs.Run.{Step}
use Rattle.delivery_machine.specs.Journals.{producers_in, consumers_in}
use Rattle.topic_shared.specs.Kept.{Kept, kept_lines, needed_by, spoken_for}
use Rattle.topic_shared.proofs.Answered.{long_replies}
use Rattle.topic_shared.proofs.Cells.{kept_more, needs_some}
use Rattle.topic_shared.proofs.cell.Cell.call_within.Goals as goal

pub note-requires-clause-room : goal.note-requires-clause-room
note-requires-clause-room g c =
    let room = subst (λ (k : Kept). (c.args.needed ≡ needed_by k c.args.event) × (spoken_for k + c.args.needed ≤ k.limit)) (sym c.self.view_is) c.requires.needed in
    let kept = c.kept_lines-kept.ensures.value ∙ ap kept_lines (sym c.self.view_is) in
    let some = needs_some (producers_in (g.T.Topic.state c.self.inside.topic)) (consumers_in (g.T.Topic.state c.self.inside.topic)) c.args.event in
    omega (arith, room.0, kept, some, c.in-Ok.ensures.ok)

pub note-requires-clause-fits : goal.note-requires-clause-fits
note-requires-clause-fits g c = λ short.
    let a = c.in-Ok-answer_drafted.answered in
    let done = c.in-Ok-answer_drafted.ensures in
    let before = g.T.Topic.state c.self.inside.topic in
    let after = g.T.Topic.state c.answer_drafted.new.topic in
    long_replies before a.draft a.reply after (subst (λ e. Step before e a.reply after) (sym done.draft) done.step) short

pub invariant_of-self-in-Ok-answer_drafted : goal.invariant_of-self-in-Ok-answer_drafted
invariant_of-self-in-Ok-answer_drafted g c =
    let k = c.self.invariant in
    let room = subst (λ (k : Kept). (c.args.needed ≡ needed_by k c.args.event) × (spoken_for k + c.args.needed ≤ k.limit)) (sym c.self.view_is) c.requires.needed in
    let kept = c.kept_lines-kept.ensures.value ∙ ap kept_lines (sym c.self.view_is) in
    kept_more _ _ _ _ _ _ _ _ c.args.seat c.args.event c.in-Ok-answer_drafted.answered.reply k
    c.in-Ok-answer_drafted.ensures.step
    refl refl refl refl refl refl
    (search rules)
    (search rules)
    (search rules)
    (search rules)
    (omega (arith, room.0, room.1))
    (let lines = ap length c.make_room.ensures.lines in omega (arith, room.0, kept, lines, c.in-Ok.ensures.ok, c.note.ensures.capacity))

pub returns-in-Ok-answer_drafted-clause-within : goal.returns-in-Ok-answer_drafted-clause-within
returns-in-Ok-answer_drafted-clause-within g c =
    let room = subst (λ (k : Kept). (c.args.needed ≡ needed_by k c.args.event) × (spoken_for k + c.args.needed ≤ k.limit)) (sym c.self.view_is) c.requires.needed in
    let few = subst (λ (k : Kept). k.limit ≤ 16777216) (sym c.self.view_is) c.requires.limit in
    let some = needs_some (producers_in (g.T.Topic.state c.self.inside.topic)) (consumers_in (g.T.Topic.state c.self.inside.topic)) c.args.event in
    let lines = ap length c.make_room.ensures.lines in
    let more = ap length c.note.ensures.line ∙ length-append c.make_room.new.lines.items _ in
    omega (arith, room.0, room.1, few, some, lines, more)
