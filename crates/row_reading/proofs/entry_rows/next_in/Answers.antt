use Rattle.std.proofs.Common.{◌≡◌, true, true≢false, sym, subst, ◌∙◌}
use Rattle.position_core.specs.declared.message.Entry.{Entry}
use Rattle.row_reading.specs.Reading.{IsEntryAt, IsNext}
use Rattle.row_reading.proofs.Entries.{one_position}
use Rattle.row_reading.proofs.entry_rows.next_in.Goals as goal

pub returns-in_ok-new-in-Some-clause-shown : goal.returns-in_ok-new-in-Some-clause-shown
returns-in_ok-new-in-Some-clause-shown c = subst (IsEntryAt c.args.place c.args.row.now) (sym c.in_ok-new-in-Some.ensures) (rw c.in-Some.is at c.in_ok-entry.ensures.shown)

pub returns-else-may_follow-clause-all_read : goal.returns-else-may_follow-clause-all_read
returns-else-may_follow-clause-all_read c =
    λ e readable shown next.
    let found : Entry = c.in-Some.entry in
    let there : IsEntryAt c.args.place c.args.row.now found = rw c.in-Some.is at c.in_ok-entry.ensures.shown in
    let same : e.position ≡ found.position = one_position c.args.row.now c.args.place e found shown there in
    let yes : c.may_follow.result ≡ true = c.may_follow.ensures.all_follow (subst (λ p. IsNext c.args.head.now.ledger_size c.args.head.now.ledger c.parts_of-last.result.0 p) same (subst (λ l. IsNext c.args.head.now.ledger_size c.args.head.now.ledger l e.position) (sym c.parts_of-last.ensures) next)) in
    true≢false (sym yes ∙ c.if-may_follow.false)
