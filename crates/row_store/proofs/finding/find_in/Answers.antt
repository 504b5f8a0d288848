use Rattle.std.proofs.lemmas.Result.{IfOk-weaker}
use Rattle.row_store.proofs.finding.find_in.Goals as goal

pub returns-in-None-clause-found : goal.returns-in-None-clause-found
returns-in-None-clause-found g c clean = IfOk-weaker c.begin.result _ _ (λ found by ready none. by ready) (c.begin.ensures.found clean)
