use Rattle.std.proofs.Common.{◌≡◌, ◌+◌, ◌++◌, ℕ, List, Some, None, slice_get, take, refl, ap, ◌∙◌, subst, sym, arith}
use Rattle.std.specs.Option.{option_copied}
use Rattle.position_core.specs.declared.message.Entry.{Entry}
use Rattle.ack_ranges.specs.Ranges.{IsNextMissing}
use Rattle.delivery_machine.specs.Places.{KeptPlaces}
use Rattle.delivery_machine.specs.declared.delivery.Delivery.{Delivery}
use Rattle.session_links.specs.Looking.{is_dead, next_from}
use Rattle.session_links.proofs.Left.{IsSoFar, adds, ends_beyond, ends_past, nothing_if, passes}
use Rattle.session_links.proofs.looking.push_left.Goals as goal
use Rattle.session_links.proofs.looking.push_left.Goals.{then-not-is_dead+in_ok-push_message, else-not-is_dead}

pub returns-then-place-end : goal.returns-then-place-end
returns-then-place-end c =
    let next = subst (λ (k : KeptPlaces). IsNextMissing k.acknowledged c.each.place c.next_missing-place.result) c.kept.view_is c.next_missing-place.ensures in
    ends_beyond c.args.kept.now c.args.snapshot.now.log c.args.end _ c.each.shown c.each.place c.next_missing-place.result c.each.left next c.if-place-end.true c.each.invariant

pub returns-in_default : goal.returns-in_default
returns-in_default c =
    let next = subst (λ (k : KeptPlaces). IsNextMissing k.acknowledged c.each.place c.next_missing-place.result) c.kept.view_is c.next_missing-place.ensures in
    let none : slice_get c.args.snapshot.now.log c.next_missing-place.result ≡ None =
    ap (λ l. slice_get l c.next_missing-place.result) (sym c.log.ensures.value) ∙ (sym c.get.ensures ∙ ap option_copied (nothing_if c.get.result c.in_default.not-Some))
    in
    ends_past c.args.kept.now c.args.snapshot.now.log c.args.end _ c.each.shown c.each.place c.next_missing-place.result c.each.left next none c.each.invariant

pub each-preserved : goal.each-preserved
each-preserved c =
    let messages : List Entry = take c.args.end c.args.snapshot.now.log in
    let whole : List Delivery = c.args.shown.now ++ next_from c.args.kept.now 0 c.args.count messages in
    let e : Entry = c.in-Some.message.now in
    let next = subst (λ (k : KeptPlaces). IsNextMissing k.acknowledged c.each.place c.next_missing-place.result) c.kept.view_is c.next_missing-place.ensures in
    let at : slice_get c.args.snapshot.now.log c.next_missing-place.result ≡ Some e =
    ap (λ l. slice_get l c.next_missing-place.result) (sym c.log.ensures.value) ∙ (sym c.get.ensures ∙ ap option_copied c.in-Some.is)
    in
    let told : is_dead c.args.kept.now e.position ≡ c.is_dead.result = ap (is_dead c.args.kept.now) (sym c.position.ensures) ∙ sym c.is_dead.ensures in
    elim c.if-not-is_dead.branch [
      | then-not-is_dead+in_ok-push_message w ↦
          let less : c.each.left ≡ c.if-not-is_dead.left + 1 = omega (arith, w.left-is, c.each-test.true) in
          subst (λ (ds : List Delivery). IsSoFar c.args.kept.now messages whole ds (c.next_missing-place.result + 1) c.if-not-is_dead.left) (sym (w.shown-is ∙ w.in_ok-push_message.ensures.ok))
          (adds c.args.kept.now c.args.snapshot.now.log c.args.end whole c.each.shown c.each.place c.next_missing-place.result (c.next_missing-place.result + 1) c.each.left c.if-not-is_dead.left e refl less next
          c.if-place-end.false at (told ∙ w.if-not-is_dead.true) c.each.invariant)
      | else-not-is_dead w ↦
          subst (λ (ds : List Delivery). IsSoFar c.args.kept.now messages whole ds (c.next_missing-place.result + 1) c.if-not-is_dead.left) (sym w.shown-is)
          (subst (λ (n : ℕ). IsSoFar c.args.kept.now messages whole c.each.shown (c.next_missing-place.result + 1) n) (sym w.left-is)
          (passes c.args.kept.now c.args.snapshot.now.log c.args.end whole c.each.shown c.each.place c.next_missing-place.result (c.next_missing-place.result + 1) c.each.left e refl next c.if-place-end.false at
          (told ∙ w.if-not-is_dead.false) c.each.invariant))
    ]
