use Rattle.std.proofs.Common.{◌≡◌, ◌++◌, [], ℕ, refl, sym, ap, ◌∙◌, append-nil}
use Rattle.std.specs.Global.{Vec}
use Rattle.replay_core.specs.Progress.{moment}
use Rattle.replay_core.proofs.Taking.{line_taken}
use Rattle.replay_core.proofs.engine.Replay.answer_begun.Goals as goal

pub returns-clause-takes : goal.returns-clause-takes
returns-clause-takes g c = λ w s input p.
    let r = c.args.self.now in
    let line : c.as_slice.result.now ≡ r.begun.items ++ [] = c.as_slice.ensures.value ∙ ap (λ (v : Vec ℕ). v.items) c.replace-line.ensures.value ∙ sym (append-nil r.begun.items) in
    let gone = c.answer_line.ensures.begun ∙ ap (λ (v : Vec ℕ). v.items) c.replace-line.ensures.after ∙ c.new.ensures.items in
    line_taken s input (moment r w c.args.topic.now) c.answer_line.new.self c.answer_line.new.topic [] c.as_slice.result.now c.answer_line.result p refl line c.answer_line.ensures.ok c.answer_line.ensures.err c.answer_line.ensures.why c.answer_line.ensures.count gone c.answer_line.ensures.name

pub returns-clause-begun : goal.returns-clause-begun
returns-clause-begun g c = c.answer_line.ensures.begun ∙ ap (λ (v : Vec ℕ). v.items) c.replace-line.ensures.after ∙ c.new.ensures.items
