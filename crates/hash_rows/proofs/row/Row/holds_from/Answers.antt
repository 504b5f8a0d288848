use Rattle.std.proofs.Common.{sym, ◌∙◌, get_or, ◌-◌}
use Rattle.hash_rows.proofs.Marks.{there_is_none, there_is_some}
use Rattle.hash_rows.proofs.From.{held_from, nothing_from}
use Rattle.hash_rows.proofs.row.Row.holds_from.Goals as goal

pub returns-clause-yes : goal.returns-clause-yes
returns-clause-yes c is =
    let row = c.args.self.now in
    let at = there_is_some c.next_from.result (sym c.is_some.ensures ∙ is) c.next_from.ensures.some in
    (get_or row.places.items at.0 0 - c.args.base, held_from row c.args.base c.start-start.result c.start-start.ensures at.0 at.1)

pub returns-clause-no : goal.returns-clause-no
returns-clause-no c is =
    nothing_from c.args.self.now c.args.base c.start-start.result c.start-start.ensures (there_is_none c.next_from.result (sym c.is_some.ensures ∙ is) c.next_from.ensures.none)
