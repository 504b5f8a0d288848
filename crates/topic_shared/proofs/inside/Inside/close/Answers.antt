use Rattle.std.proofs.Common.{rules, arith, length, sym, ◌∙◌, ◌≡◌, ◌+◌, subst}
use Rattle.topic_shared.specs.Accounts.{Accounts}
use Rattle.topic_shared.specs.Inside.{Locked}
use Rattle.topic_shared.proofs.AllHere.{accounts}
use Rattle.topic_shared.proofs.inside.Inside.close.Goals as goal

pub returns-clause-accounts : goal.returns-clause-accounts
returns-clause-accounts g c =
    let i = c.self.invariant in
    let whole : length c.args.seats.items + length c.self.inside.spares.items ≡ g.L.Ledger.parts = omega (arith, c.if-len-self.false, c.len.ensures, c.len-2.ensures, i.all_are) in
    let all = c.audit.ensures.whole (omega (arith, whole, c.merge_all.ensures.parts, i.parts_are)) in
    let here = accounts _ _ _ _ _ _ _ _ _ _ c.into_journal.ensures.lines c.as_slice-lines.ensures c.as_slice.ensures.value c.as_slice-else-not-are_counted.ensures.value
    c.as_slice-else-not-are_counted_spares.ensures.value c.as_slice-else-not-are_counted_spares-2.ensures.value whole
    (c.are_counted.ensures (search rules)) (c.are_counted_spares.ensures (search rules)) (c.has_no_others.ensures.0 (search rules))
    (i.counted ∙ sym all ∙ omega (arith, c.merge_all.ensures.amount, i.amount_is)) in
    subst (λ (held : Locked). Accounts g.L.Ledger.parts c.into_journal.result c.args.seats.items held.free) c.self.view_is here
