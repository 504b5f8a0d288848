use Rattle.std.proofs.Common.{◌+◌, ◌++◌, [], refl, sym, inl, inr, arith, length-append, append-nil}
use Rattle.replay_core.specs.Replay.{IsTooLong}
use Rattle.replay_core.specs.Progress.{moment}
use Rattle.replay_core.specs.declared.stop.Stop.TheVariants.{BadLine}
use Rattle.replay_core.proofs.Steps.{Stopped-at, no_end}
use Rattle.replay_core.proofs.engine.Replay.add_part.Goals as goal

pub returns-then-saturating_add-gt-LONGEST_LINE-clause-takes :
    goal.returns-then-saturating_add-gt-LONGEST_LINE-clause-takes
returns-then-saturating_add-gt-LONGEST_LINE-clause-takes c = λ w t s input p.
    let r = c.args.self.now in
    let part = c.args.part.now in
    let line = r.begun.items ++ part in
    let long : IsTooLong line = omega (arith, length-append r.begun.items part, c.if-saturating_add-gt-LONGEST_LINE.true, c.saturating_add.ensures, c.len.ensures) in
    Stopped-at s input (moment r w t) r t part (BadLine (r.lines + 1)) p refl refl
    (refl, inr (line, [], sym (append-nil line), no_end r.begun.items part p.begun c.requires.open_end, long)) (inl refl)
