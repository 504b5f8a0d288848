use Rattle.std.proofs.Common.{subst, sym, ap, ◌∙◌}
use Rattle.stored_cell.specs.Noted.{Noted, StandsAmong}
use Rattle.row_store.proofs.knowing.keep_all.Goals as goal

pub new-requires : goal.new-requires
new-requires g c = λ clean.
    let same = c.again-in-loop-mark.ensures in
    let stands = c.requires.stand (sym (ap (λ (n : Noted). n.clean) same) ∙ clean) c.loop-mark.mark-index c.mark-item.result c.loop-mark-test.true in
    let kept = ap (λ (n : Noted). n.kept) (c.again.ensures ∙ c.mark-item.is) in
    subst (λ rows. StandsAmong c.again.result.kept rows) (sym (ap (λ (n : Noted). n.rows) same)) (subst (λ kept. StandsAmong kept c.args.rows.now.rows) (sym kept) stands)
