use Rattle.std.proofs.Common.{◌++◌, ◌∷◌, [], List, ℕ, sym, append-nil}
use Rattle.replay_core.specs.Progress.{moment}
use Rattle.replay_core.proofs.Taking.{Takes-then}
use Rattle.replay_core.proofs.engine.Replay.take_line.Goals as goal

pub returns-then-is_large-clause-takes : goal.returns-then-is_large-clause-takes
returns-then-is_large-clause-takes g c =
    let w = g.W.Write.contents c.args.writer.now in
    let u = c.end_line.new.topic in
    let part : List ℕ = c.args.part.now ++ 10 ∷ [] in
    Takes-then part [] part (moment c.args.self.now w c.args.topic.now) (moment c.end_line.new.self w u) (moment c.write_answers.new.self (g.W.Write.contents c.write_answers.new.writer) u) c.end_line.result c.write_answers.result (c.end_line.ensures.takes w) c.in_ok-end_line.was (c.write_answers.ensures.takes u) (sym (append-nil part))
