use Rattle.std.proofs.Common.{◌≡◌, ◌++◌, ◌∷◌, [], ap, ◌∙◌, sym, length, Some, refl}
use Rattle.std.specs.FinSet as set
use Rattle.std.specs.List.{slice_get}
use Rattle.std.proofs.lemmas.Option.{slice_get_read}
use Rattle.position_core.specs.declared.position.Position.{Position}
use Rattle.plain_lists.proofs.Placed.{from_one, from_none}
use Rattle.plain_lists.proofs.places.positions_at.Goals as goal
use Rattle.plain_lists.proofs.places.positions_at.Goals.{then-contains+in_ok-push, else-contains}

pub each-preserved : goal.each-preserved
each-preserved c =
    let log = c.args.log.now in
    let i = c.each.i in
    let e = c.index-log-i.result in
    let p = set.contains c.args.places.now in
    let before = c.each.positions.items in
    let at : slice_get log i ≡ Some e = slice_get_read log (length log) i e refl c.each-test.true c.index-log-i.is in
    elim c.if-contains.branch [
      | then-contains+in_ok-push w ↦
          from_one p log i e before c.if-contains.positions.items at (sym c.contains.ensures ∙ w.if-contains.true) c.each.invariant
          (ap (λ v. v.items) w.positions-is ∙ w.in_ok-push.ensures.items ∙ ap (λ (q : Position). before ++ q ∷ []) c.position-position.ensures)
      | else-contains w ↦
          from_none p log i e before c.if-contains.positions.items at (sym c.contains.ensures ∙ w.if-contains.false) c.each.invariant
          (ap (λ v. v.items) w.positions-is)
    ]
