use Rattle.std.proofs.Common.{sym, ◌∙◌, true≢false, ap, not}
use Rattle.std.proofs.lemmas.Option.{same_Some}
use Rattle.hash_rows.proofs.Marks.{there_is_none}
use Rattle.hash_rows.proofs.Known.{nothing_held}
use Rattle.hash_rows.proofs.row.Row.take_keeper.Goals as goal

pub returns-then-is_none-clause-keeper : goal.returns-then-is_none-clause-keeper
returns-then-is_none-clause-keeper c other is = (
  sym (same_Some _ _ is),
  λ i held.
      absurd (true≢false (sym held ∙ nothing_held c.args.self.now (there_is_none c.first.result (c.is_none.ensures ∙ ap not c.if-is_none.true) c.first.ensures.none) i)),
)
