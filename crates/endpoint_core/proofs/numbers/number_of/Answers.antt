use Rattle.std.proofs.Common.{sym, ◌∙◌}
use Rattle.endpoint_core.proofs.Decimals.{beyond}
use Rattle.endpoint_core.proofs.numbers.number_of.Goals as goal

pub returns-in-Err-clause-none : goal.returns-in-Err-clause-none
returns-in-Err-clause-none c = beyond c.args.text.now c.parse.result _ (sym c.are_digits.ensures ∙ c.if-not-are_digits.false) c.parse.ensures.value.0 c.in-Err.is
