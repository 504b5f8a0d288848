use Rattle.std.proofs.Common.{◌∙◌, sym, ap}
use Rattle.std.specs.Prelude.{Err}
use Rattle.replay_core.specs.Progress.{moment}
use Rattle.replay_core.specs.declared.stop.Stop.{Stop}
use Rattle.replay_core.specs.declared.stop.Stop.TheVariants.{Write}
use Rattle.replay_core.proofs.Taking.{err_is}
use Rattle.replay_core.proofs.Endings.{Replayed-all, Replayed-front, Replayed-before, Replayed-as, not_writing, is_writing}
use Rattle.replay_core.proofs.engine.Replay.write_rest.Goals as goal

pub returns-then-failed_writing : goal.returns-then-failed_writing
returns-then-failed_writing g c = λ s input before left t consumed h.
    Replayed-before s input before left (moment c.args.self.now (g.W.Write.contents c.args.writer.now) t) c.args.outcome consumed (is_writing c.args.outcome (sym c.failed_writing.ensures ∙ c.if-failed_writing.true)) h

pub returns-in_err-write_to : goal.returns-in_err-write_to
returns-in_err-write_to g c = λ s input before left t consumed h.
    let fails = not_writing c.args.outcome (sym c.failed_writing.ensures ∙ c.if-failed_writing.false) in
    let is = err_is _ _ c.from_residual.ensures.1 ∙ ap (λ (stop : Stop). Err stop) c.in_err-write_to.ensures.err in
    Replayed-as s.name _ _ (Err Write) c.from_residual.result is (Replayed-front s input before left (moment c.args.self.now (g.W.Write.contents c.args.writer.now) t) _ c.args.outcome consumed h fails c.in_err-write_to.ensures.front)

pub returns : goal.returns
returns g c = λ s input before left t consumed h.
    Replayed-all s input before left (moment c.args.self.now (g.W.Write.contents c.args.writer.now) t) _ c.args.outcome consumed h (not_writing c.args.outcome (sym c.failed_writing.ensures ∙ c.if-failed_writing.false)) c.in_ok-write_to.ensures.ok
