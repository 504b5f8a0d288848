use Rattle.std.proofs.Common.{◌≡◌, ◌++◌, [], List, ℕ, take, subst, ap, ◌∙◌, append-nil, arith}
use Rattle.std.proofs.lemmas.List.{length-take}
use Rattle.std.specs.Io.KnownBytes.{Consumes}
use Rattle.std.proofs.KnownBytes.{Consumes-nil, Consumes-kept, Consumes-trans}
use Rattle.replay_core.specs.Progress.{Start}
use Rattle.replay_core.proofs.Taking.{err_is}
use Rattle.replay_core.proofs.Endings.{Progress-first, Progress-same, Stopped-same, Ended-failed, Ended-fault}
use Rattle.replay_core.proofs.engine.Replay.run.Goals as goal

pub loop-turn-init : goal.loop-turn-init
loop-turn-init g c =
    ([], omega (arith, c.requires.begins.0), Consumes-nil (g.R.Read.remaining c.args.reader.now), Progress-first c.args.topic.now (g.W.Write.contents c.args.writer.now) c.args.self.now c.requires.begins.0 c.requires.begins.1 c.requires.begins.2)

pub returns-in_err-write_answers : goal.returns-in_err-write_answers
returns-in_err-write_answers g c =
    let so_far = c.loop-turn.invariant in
    let first : Start = record { name = c.args.self.now.name; written = g.W.Write.contents c.args.writer.now; topic = c.args.topic.now } in
    let t = c.loop-turn.topic in
    let stopped = c.in_err-write_answers.ensures.takes t first so_far.0 so_far.3 in
    (so_far.0, so_far.2, Ended-failed first so_far.0 _ _ c.from_residual.result _ (Stopped-same first so_far.0 _ _ stopped) (err_is _ _ c.from_residual.ensures.1))

pub returns-in_default : goal.returns-in_default
returns-in_default g c =
    let so_far = c.loop-turn.invariant in
    let first : Start = record { name = c.args.self.now.name; written = g.W.Write.contents c.args.writer.now; topic = c.args.topic.now } in
    let t = c.loop-turn.topic in
    let p = Progress-same first so_far.0 _ (c.in_ok-write_answers.ensures.takes t first so_far.0 so_far.3) in
    (so_far.0, Consumes-kept _ _ _ so_far.0 so_far.2 c.in_default.ensures.bytes, Ended-fault first so_far.0 _ _ p)

pub returns-in_err-take_piece : goal.returns-in_err-take_piece
returns-in_err-take_piece g c =
    let so_far = c.loop-turn.invariant in
    let first : Start = record { name = c.args.self.now.name; written = g.W.Write.contents c.args.writer.now; topic = c.args.topic.now } in
    let t = c.loop-turn.topic in
    let part : List ℕ = take c.in-Ok.count c.read.new.buf in
    let p = Progress-same first so_far.0 _ (c.in_ok-write_answers.ensures.takes t first so_far.0 so_far.3) in
    let stopped = c.in_err-take_piece.ensures.takes first so_far.0 p in
    (so_far.0 ++ part, Consumes-trans _ _ _ so_far.0 part so_far.2 c.in-Ok.ensures.bytes.0, Ended-failed first (so_far.0 ++ part) _ _ c.from_residual-in_err-take_piece.result _ stopped (err_is _ _ c.from_residual-in_err-take_piece.ensures.1))

pub loop-turn-preserved : goal.loop-turn-preserved
loop-turn-preserved g c =
    let so_far = c.loop-turn.invariant in
    let first : Start = record { name = c.args.self.now.name; written = g.W.Write.contents c.args.writer.now; topic = c.args.topic.now } in
    let t = c.loop-turn.topic in
    let part : List ℕ = take c.in-Ok.count c.read.new.buf in
    let p = Progress-same first so_far.0 _ (c.in_ok-write_answers.ensures.takes t first so_far.0 so_far.3) in
    (so_far.0 ++ part, omega (arith, c.in_ok-take_piece.ensures.lines, c.in_ok-write_answers.ensures.lines, so_far.1, length-take c.in-Ok.count c.read.new.buf, c.read.auto.buf, c.requires.room.1, c.loop-turn.auto.piece), Consumes-trans _ _ _ so_far.0 part so_far.2 c.in-Ok.ensures.bytes.0, c.in_ok-take_piece.ensures.takes first so_far.0 p)

pub returns : goal.returns
returns g c =
    let so_far = c.loop-turn.invariant in
    (so_far.0, so_far.2, Ended-fault _ so_far.0 _ _ so_far.3)

pub returns-then-count-eq0 : goal.returns-then-count-eq0
returns-then-count-eq0 g c =
    let so_far = c.loop-turn.invariant in
    let first : Start = record { name = c.args.self.now.name; written = g.W.Write.contents c.args.writer.now; topic = c.args.topic.now } in
    let t = c.loop-turn.topic in
    let part : List ℕ = take c.in-Ok.count c.read.new.buf in
    let p = Progress-same first so_far.0 _ (c.in_ok-write_answers.ensures.takes t first so_far.0 so_far.3) in
    let none : so_far.0 ++ part ≡ so_far.0 = ap (λ (n : ℕ). so_far.0 ++ take n c.read.new.buf) c.if-count-eq0.true ∙ append-nil so_far.0 in
    let at_end = c.in-Ok.ensures.bytes.1 c.if-count-eq0.true (omega (arith, c.requires.room.0, c.read.auto.buf, c.loop-turn.auto.piece)) in
    (so_far.0, subst (Consumes _ _) none (Consumes-trans _ _ _ so_far.0 part so_far.2 c.in-Ok.ensures.bytes.0), c.end_input.ensures first so_far.0 _ _ at_end p)
