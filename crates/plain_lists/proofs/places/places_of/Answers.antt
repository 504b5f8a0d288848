use Rattle.std.proofs.Common.{◌≡◌, ap, ◌∙◌, sym, length, Some, refl}
use Rattle.std.specs.FinSet as set
use Rattle.std.specs.List.{slice_get}
use Rattle.std.proofs.lemmas.Option.{slice_get_read}
use Rattle.position_core.specs.declared.position.Position.{Position}
use Rattle.plain_lists.proofs.Placed.{place_one, place_none, none_at_first}
use Rattle.plain_lists.proofs.places.places_of.Goals as goal
use Rattle.plain_lists.proofs.places.places_of.Goals.{then-contains+in_ok-add, else-contains}

pub each-init : goal.each-init
each-init c = none_at_first c.args.positions.now c.new-places.result c.new-places.ensures

pub each-preserved : goal.each-preserved
each-preserved c =
    let log = c.args.log.now in
    let i = c.each.i in
    let e = c.index-log-i.result in
    let s = c.args.positions.now in
    let before = c.each.places in
    let at : slice_get log i ≡ Some e = slice_get_read log (length log) i e refl c.each-test.true c.index-log-i.is in
    let read = ap (λ (q : Position). set.contains s q) (sym c.position-position.ensures) ∙ sym c.contains.ensures in
    elim c.if-contains.branch [
      | then-contains+in_ok-add w ↦ place_one s log i e before c.if-contains.places at (read ∙ w.if-contains.true) c.each.invariant (w.places-is ∙ w.in_ok-add.ensures.ok)
      | else-contains w ↦ place_none s log i e before c.if-contains.places at (read ∙ w.if-contains.false) c.each.invariant w.places-is
    ]
