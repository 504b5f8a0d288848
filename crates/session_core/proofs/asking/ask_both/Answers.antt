use Rattle.session_core.proofs.Series.{both_end_first, both_end_second}
use Rattle.session_core.proofs.asking.ask_both.Goals as goal

pub returns-in-Err : goal.returns-in-Err
returns-in-Err g c = both_end_first _ _ _ _ _ _ c.in-Err.ensures

pub returns-in-Err-ask_series : goal.returns-in-Err-ask_series
returns-in-Err-ask_series g c = both_end_second _ _ _ _ _ _ _ c.if-not-is_free.false c.in-Ok.ensures c.in-Err-ask_series.ensures
