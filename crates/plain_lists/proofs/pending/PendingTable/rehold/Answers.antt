use Rattle.std.proofs.Common.{ap, ◌∙◌}
use Rattle.std.specs.Prelude.{if◌then◌else◌}
use Rattle.std.specs.FinMap as map_of
use Rattle.position_core.specs.declared.held.Held.{Held}
use Rattle.position_core.specs.Position.{position_cmp}
use Rattle.plain_lists.specs.Keyed.{is_keyed}
use Rattle.plain_lists.proofs.Tables.{entries_reheld, keyed_reheld}
use Rattle.plain_lists.proofs.pending.PendingTable.rehold.Goals as goal

pub invariant_of-self : goal.invariant_of-self
invariant_of-self c = ap is_keyed c.rehold.ensures ∙ keyed_reheld c.args.position c.args.held c.self.inside.entries.items c.self.invariant

pub returns : goal.returns
returns c =
    ap map_of.from_entries c.rehold.ensures
    ∙ entries_reheld c.self.inside.entries.items c.args.position c.args.held
    ∙ ap (λ (m : map_of.FinMap position_cmp Held). if map_of.contains_key m c.args.position then map_of.insert m c.args.position c.args.held else m) c.self.view_is
