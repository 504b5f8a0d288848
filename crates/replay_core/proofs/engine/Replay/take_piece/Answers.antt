use Rattle.std.proofs.Common.{◌++◌, ◌∷◌, [], List, ℕ, refl}
use Rattle.std.specs.Prelude.{Ok}
use Rattle.replay_core.specs.Progress.{moment}
use Rattle.replay_core.proofs.Taking.{Takes-then, Takes-failed, err_is, parts_join, lines_more}
use Rattle.replay_core.proofs.engine.Replay.take_piece.Goals as goal

pub returns-in_err-take_line-clause-takes : goal.returns-in_err-take_line-clause-takes
returns-in_err-take_line-clause-takes g c =
    let before = c.loop-part.invariant in
    let done = before.0 in
    let part : List ℕ = c.in-Some.part.now ++ 10 ∷ [] in
    let first = moment c.args.self.now (g.W.Write.contents c.args.writer.now) c.args.topic.now in
    let middle = moment c.loop-part.self (g.W.Write.contents c.loop-part.writer) c.loop-part.topic in
    let last = moment c.take_line.new.self (g.W.Write.contents c.take_line.new.writer) c.take_line.new.topic in
    let both = Takes-then done part (done ++ part) first middle last (Ok tt) c.take_line.result before.3 refl c.take_line.ensures.takes refl in
    Takes-failed (done ++ part) c.in-Some.after.now c.args.piece.now first last c.take_line.result c.from_residual.result c.in_err-take_line.field-0.0 both c.in_err-take_line.was (err_is _ _ c.from_residual.ensures.1) (parts_join done c.in-Some.part.now c.in-Some.after.now c.loop-part.rest.now c.args.piece.now before.1 c.in-Some.ensures.whole)

pub loop-part-preserved : goal.loop-part-preserved
loop-part-preserved g c =
    let before = c.loop-part.invariant in
    let done = before.0 in
    let part : List ℕ = c.in-Some.part.now ++ 10 ∷ [] in
    let first = moment c.args.self.now (g.W.Write.contents c.args.writer.now) c.args.topic.now in
    let middle = moment c.loop-part.self (g.W.Write.contents c.loop-part.writer) c.loop-part.topic in
    let last = moment c.take_line.new.self (g.W.Write.contents c.take_line.new.writer) c.take_line.new.topic in (
      done ++ part,
      parts_join done c.in-Some.part.now c.in-Some.after.now c.loop-part.rest.now c.args.piece.now before.1 c.in-Some.ensures.whole,
      lines_more done c.in-Some.part.now _ _ _ before.2 c.take_line.ensures.lines,
      Takes-then done part (done ++ part) first middle last (Ok tt) (Ok tt) before.3 refl c.in_ok-take_line.ensures.takes refl,
    )

pub returns-clause-takes : goal.returns-clause-takes
returns-clause-takes g c =
    let before = c.loop-part.invariant in
    let now = g.W.Write.contents c.loop-part.writer in
    let t = c.loop-part.topic in
    let first = moment c.args.self.now (g.W.Write.contents c.args.writer.now) c.args.topic.now in
    Takes-then before.0 c.loop-part.rest.now c.args.piece.now first (moment c.loop-part.self now t) (moment c.add_part.new.self now t) (Ok tt) c.add_part.result before.3 refl (c.add_part.ensures.takes now t) before.1
