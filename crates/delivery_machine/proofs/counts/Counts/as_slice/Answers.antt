use Rattle.std.proofs.Common.{ap, ◌∙◌, sym}
use Rattle.std.specs.FinMap as map_of
use Rattle.delivery_machine.proofs.CountsListed.{listed, entries_listed}
use Rattle.delivery_machine.proofs.counts.Counts.as_slice.Goals as goal

pub returns-clause-entries : goal.returns-clause-entries
returns-clause-entries c =
    ap listed c.as_slice.ensures.value
    ∙ sym (entries_listed c.self.inside.entries.items c.self.invariant)
    ∙ ap map_of.entries c.self.view_is
