use Rattle.std.proofs.Common.{ap, ◌∙◌}
use Rattle.std.specs.FinMap as map_of
use Rattle.dedup_core.specs.Sequences.{Numbers}
use Rattle.dedup_core.proofs.Found.{numbers_in-removed}
use Rattle.dedup_core.proofs.sequences.Sequences.forget.Goals as goal

pub returns : goal.returns
returns c =
    numbers_in-removed c.self.inside.table.entries c.remove.new.self.entries c.args.name (λ other. c.remove.ensures.updates.0 (record { name = other }))
    ∙ ap (λ (m : Numbers). map_of.remove m c.args.name) c.self.view_is
