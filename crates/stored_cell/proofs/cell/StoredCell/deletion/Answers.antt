use Rattle.std.proofs.Common.{◌↔◌, IsTrue, refl, subst, sym}
use Rattle.std.specs.Prelude.{IsSome}
use Rattle.std.proofs.lemmas.Result.{IfOk-weaker}
use Rattle.topic_lives.specs.Deleting.{IsDeletable}
use Rattle.stored_cell.proofs.Letters.{deletable}
use Rattle.stored_cell.proofs.cell.StoredCell.deletion.Goals as goal

pub returns-in-Ok-clause-may : goal.returns-in-Ok-clause-may
returns-in-Ok-clause-may g c =
    let s = c.self.inside.cell.state in
    let vacant = c.is_vacant.ensures.0 (subst IsTrue (sym c.if-not-is_vacant.false) refl) in
    let same = deletable s c.in-Ok.snapshot c.in-Ok.ensures.ok vacant in
    rw (← c.self.view_is) (IfOk-weaker c.left_of-found.result _ (λ found. IsSome found ↔ IsDeletable s) (λ found may. ((λ is. same.0 (may.0 is)), (λ can. may.1 (same.1 can)))) c.left_of-found.ensures.may)
