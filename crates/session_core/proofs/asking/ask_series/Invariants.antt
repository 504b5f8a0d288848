use Rattle.session_core.specs.Steps.{AsksSome, series_event}
use Rattle.session_core.proofs.asking.ask_series.Given as goal

abbrev pub invariant-loop : goal.invariant-loop
invariant-loop g l = AsksSome (series_event l.series l.subscription l.now) l.counter (g.K.Caller.calls l.fn.caller) (g.K.Caller.calls l.caller)
