use Rattle.std.proofs.Common.{ap, ◌∙◌}
use Rattle.delivery_machine.specs.Ticking.{recounted}
use Rattle.plain_lists.proofs.Tables.{counted_entries}
use Rattle.plain_lists.proofs.counts.CountTable.count_again.Goals as goal

pub returns-clause-ok : goal.returns-clause-ok
returns-clause-ok c =
    counted_entries c.self.inside.entries.items _ _ _ _ c.args.positions.now c.deref.ensures.value c.deref-2.ensures.value c.in_ok-entries.ensures c.in_ok-add_others.ensures
    ∙ ap (recounted c.args.positions.now) c.self.view_is
