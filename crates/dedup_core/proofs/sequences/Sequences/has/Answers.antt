use Rattle.std.proofs.Common.{ap, ◌∙◌}
use Rattle.std.specs.Prelude.{is_some}
use Rattle.dedup_core.proofs.Found.{seen}
use Rattle.dedup_core.proofs.sequences.Sequences.has.Goals as goal

pub returns : goal.returns
returns c =
    c.is_some.ensures ∙ ap is_some (c.number_of.ensures ∙ seen c.self.inside.table.entries c.args.name.now c.args.self.now c.self.view_is)
