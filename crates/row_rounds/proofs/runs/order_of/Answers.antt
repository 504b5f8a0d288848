use Rattle.std.proofs.Common.{sym, ◌∙◌}
use Rattle.std.proofs.lemmas.Map.Lookups.{exact_bytes}
use Rattle.row_rounds.proofs.runs.order_of.Goals as goal

pub returns-in-Equal-clause-sub : goal.returns-in-Equal-clause-sub
returns-in-Equal-clause-sub c = λ _. exact_bytes _ _ (sym c.order.ensures ∙ c.in-Equal.is)
