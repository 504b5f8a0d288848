use Rattle.std.proofs.Common.{sym, ◌∙◌, true≢false}
use Rattle.std.proofs.lemmas.Option.{same_Some}
use Rattle.std.proofs.lemmas.Bool.{not-true, not-false}
use Rattle.hash_rows.proofs.row.Row.is_free.Goals as goal

pub returns-else-keeper-owner-clause-yes : goal.returns-else-keeper-owner-clause-yes
returns-else-keeper-owner-clause-yes g c keeps is i held =
    absurd (true≢false (sym held ∙ c.holds_from.ensures.no (not-true c.holds_from.result is) i))

pub returns-else-keeper-owner-clause-no : goal.returns-else-keeper-owner-clause-no
returns-else-keeper-owner-clause-no g c keeps isnt all =
    let at = c.holds_from.ensures.yes (not-false c.holds_from.result isnt) in
    c.if-keeper-owner.false (same_Some _ _ (sym (keeps c.in-Some.keeper c.in-Some.is at.0 at.1) ∙ all at.0 at.1))
