use Rattle.std.proofs.Common.{ap, ◌∙◌, arith}
use Rattle.std.specs.FinMap as map_of
use Rattle.plain_lists.specs.Keyed.{is_keyed}
use Rattle.plain_lists.proofs.Tables.{entries_put, keyed_put, put_entries}
use Rattle.plain_lists.proofs.pending.PendingTable.insert.Goals as goal

pub push_reserved-requires : goal.push_reserved-requires
push_reserved-requires c = omega (arith, c.leave_out.ensures.room, c.leave_out.ensures.fewer, c.in_ok-reserve.ensures.ok, c.in_ok-reserve.ensures.len)

pub invariant_of-self-2 : goal.invariant_of-self-2
invariant_of-self-2 c =
    ap is_keyed (put_entries c.self.inside.entries.items _ _ _ c.args.position c.args.held c.in_ok-reserve.ensures.items c.leave_out.ensures.left c.push_reserved.ensures.items)
    ∙ keyed_put c.self.inside.entries.items c.args.position c.args.held c.self.invariant

pub returns-clause-ok : goal.returns-clause-ok
returns-clause-ok c =
    ap map_of.from_entries (put_entries c.self.inside.entries.items _ _ _ c.args.position c.args.held c.in_ok-reserve.ensures.items c.leave_out.ensures.left c.push_reserved.ensures.items)
    ∙ entries_put c.self.inside.entries.items c.args.position c.args.held
    ∙ ap (λ m. map_of.insert m c.args.position c.args.held) c.self.view_is
