use Rattle.std.proofs.Common.{ap, ◌∙◌}
use Rattle.std.specs.Prelude.{not}
use Rattle.std.specs.FinMap as map_of
use Rattle.delivery_machine.specs.Acknowledging.{is_one_of}
use Rattle.plain_lists.specs.Keyed.{is_keyed}
use Rattle.plain_lists.proofs.Tables.{entries_where, is_keyed-filter}
use Rattle.plain_lists.proofs.pending.PendingTable.leave_out.Goals as goal

pub invariant_of-self : goal.invariant_of-self
invariant_of-self c = ap is_keyed c.leave_out.ensures.left ∙ is_keyed-filter (λ e. not (is_one_of c.args.positions.now e.0)) c.self.inside.entries.items c.self.invariant

pub returns : goal.returns
returns c =
    ap map_of.from_entries c.leave_out.ensures.left
    ∙ entries_where c.self.inside.entries.items (λ p. not (is_one_of c.args.positions.now p))
    ∙ ap (λ m. map_of.retain_keys m (λ p. not (is_one_of c.args.positions.now p))) c.self.view_is
