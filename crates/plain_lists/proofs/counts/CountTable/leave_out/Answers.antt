use Rattle.std.proofs.Common.{ap, ◌∙◌}
use Rattle.std.specs.Prelude.{not}
use Rattle.std.specs.FinMap as map_of
use Rattle.delivery_machine.specs.Acknowledging.{is_one_of}
use Rattle.plain_lists.proofs.Tables.{entries_where}
use Rattle.plain_lists.proofs.counts.CountTable.leave_out.Goals as goal

pub returns : goal.returns
returns c =
    ap map_of.from_entries c.leave_out.ensures.left
    ∙ entries_where c.self.inside.entries.items (λ p. not (is_one_of c.args.positions.now p))
    ∙ ap (λ m. map_of.retain_keys m (λ p. not (is_one_of c.args.positions.now p))) c.self.view_is
