use Rattle.std.proofs.Common.{ap, ◌∙◌}
use Rattle.std.specs.Prelude.{not, ◌==◌}
use Rattle.std.specs.FinMap as map_of
use Rattle.position_core.specs.declared.held.Held.{Held}
use Rattle.position_core.specs.Position.{position_cmp}
use Rattle.delivery_machine.specs.Words.{is_held_by}
use Rattle.plain_lists.specs.Keyed.{is_keyed}
use Rattle.plain_lists.proofs.Tables.{entries_released, is_keyed-filter}
use Rattle.plain_lists.proofs.pending.PendingTable.release_held_by.Goals as goal

pub invariant_of-self : goal.invariant_of-self
invariant_of-self c = ap is_keyed c.release_held_by.ensures ∙ is_keyed-filter (λ e. not (e.1.consumer == c.args.consumer)) c.self.inside.entries.items c.self.invariant

pub returns : goal.returns
returns c =
    ap map_of.from_entries c.release_held_by.ensures
    ∙ entries_released c.args.consumer c.self.inside.entries.items c.self.invariant
    ∙ ap (λ (m : map_of.FinMap position_cmp Held). map_of.retain_keys m (λ p. not (is_held_by c.args.consumer (map_of.get m p)))) c.self.view_is
