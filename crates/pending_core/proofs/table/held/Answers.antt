use Rattle.std.proofs.Common.{ap, sym, ◌∙◌}
use Rattle.std.specs.Option.{option_and_then}
use Rattle.pending_core.proofs.Found.{pending_at}
use Rattle.pending_core.proofs.table.held.Goals as goal

pub returns-in-Some : goal.returns-in-Some
returns-in-Some c = sym (pending_at c.args.table.now.entries c.args.position ∙ ap (option_and_then (λ kept. kept.held)) (sym c.in-Some.ensures))

pub returns-in-None : goal.returns-in-None
returns-in-None c = sym (pending_at c.args.table.now.entries c.args.position ∙ ap (option_and_then (λ kept. kept.held)) (sym c.in-None.ensures))
