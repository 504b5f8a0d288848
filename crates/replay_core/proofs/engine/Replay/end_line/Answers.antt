use Rattle.std.proofs.Common.{◌≡◌, ◌++◌, ◌∷◌, [], List, ℕ, length, refl, sym, ap, ◌∙◌, arith}
use Rattle.std.proofs.lemmas.Bool.Decides.{nat_tests}
use Rattle.replay_core.specs.Progress.{moment}
use Rattle.replay_core.proofs.Taking.{line_taken, Takes-then, Takes-failed, nil_of, err_is}
use Rattle.replay_core.proofs.engine.Replay.end_line.Goals as goal

pub returns-then-is_empty-clause-takes : goal.returns-then-is_empty-clause-takes
returns-then-is_empty-clause-takes g c = λ w s input p.
    let gone : length c.args.self.now.begun.items ≡ 0 = grind (arith, nat_tests, c.args.self.now.begun.ok) in
    let none = nil_of c.args.self.now.begun.items gone in
    let old = moment c.args.self.now w c.args.topic.now in
    line_taken s input old _ _ c.args.part.now c.args.part.now c.answer_line.result p c.requires.open_end (sym (ap (λ (x : List ℕ). x ++ c.args.part.now) none)) c.answer_line.ensures.ok c.answer_line.ensures.err c.answer_line.ensures.why c.answer_line.ensures.count (c.answer_line.ensures.begun ∙ none) c.answer_line.ensures.name

pub returns-in_err-add_part-clause-takes : goal.returns-in_err-add_part-clause-takes
returns-in_err-add_part-clause-takes g c = λ w.
    let t = c.args.topic.now in
    Takes-failed c.args.part.now (10 ∷ []) (c.args.part.now ++ 10 ∷ []) (moment c.args.self.now w t) (moment c.add_part.new.self w t) c.add_part.result c.from_residual.result c.in_err-add_part.field-0.0 (c.add_part.ensures.takes w t) c.in_err-add_part.was (err_is _ _ c.from_residual.ensures.1) refl

pub returns-clause-takes : goal.returns-clause-takes
returns-clause-takes g c = λ w.
    let t = c.args.topic.now in
    Takes-then c.args.part.now (10 ∷ []) (c.args.part.now ++ 10 ∷ []) (moment c.args.self.now w t) (moment c.add_part.new.self w t) (moment c.answer_begun.new.self w c.answer_begun.new.topic) c.add_part.result c.answer_begun.result (c.add_part.ensures.takes w t) c.in_ok-add_part.was (c.answer_begun.ensures.takes w) refl
