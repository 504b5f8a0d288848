use Rattle.std.proofs.Common.{◌<◌, ◌+◌, length, arith, subst, sym, ◌∙◌}
use Rattle.row_reading.specs.declared.topic_row.Head.{Head}
use Rattle.row_reading.specs.declared.retention_rows.Front.{Front}
use Rattle.row_reading.specs.Reading.{IsEntryAt, IsReadableLog, last_position}
use Rattle.row_reading.proofs.Entries.{after_last}
use Rattle.row_reading.proofs.NextEntries.{next_message, rows_left}
use Rattle.row_reading.proofs.log_reader.LogReader.take.Goals as goal

pub returns-then-not-branch-clause-all_read : goal.returns-then-not-branch-clause-all_read
returns-then-not-branch-clause-all_read c =
    λ topic all rest read whole.
    let h = c.rows.invariant in
    let now = c.rows.self in
    let mine = subst (λ (d : Head). IsReadableLog d.ledger_size d.ledger all) (sym h.head) read in
    let left = rows_left c.args.self.now.front.gone topic c.args.self.now.log now.log c.args.rows.now rest _ c.rows.row-index c.row-item.result c.rows-test.true c.row-item.is h.rows whole in
    let n = next_message now.head.ledger_size now.head.ledger c.args.self.now.front.gone topic now.log all c.row-item.result _ (last_position now.log) mine left (after_last now.log) in
    let short : length now.log < 1048576 = omega (arith, n.2, read.short) in
    sym c.if-not-branch.true ∙ c.in_ok-take_row.ensures.all_read n.0 n.1.readable (subst (λ (f : Front). IsEntryAt (f.gone + length now.log) c.row-item.result n.0) (sym h.front) n.1.shown) n.1.next short
