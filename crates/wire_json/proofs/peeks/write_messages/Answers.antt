use Rattle.std.proofs.Common.{◌≡◌, List, [], ◌∷◌, ◌++◌, ◌+◌, ◌∙◌, ap, arith, drop, refl, string_bytes, subst, sym, take}
use Rattle.std.specs.Prelude.{codes}
use Rattle.std.proofs.lemmas.List.{drop_more, take-append-drop, take_all, take_more}
use Rattle.delivery_machine.specs.declared.delivery.Delivery.{Delivery}
use Rattle.wire_json.specs.Peeks.{BeginsPeek}
use Rattle.wire_json.proofs.Peeked.{all_fit, no_more_fit, none_after_one, none_shown, one_shown}
use Rattle.wire_json.proofs.peeks.write_messages.Goals as goal

pub loop-delivery-init : goal.loop-delivery-init
loop-delivery-init c = record {
  first = refl;
  shown = none_shown _ (c.in_ok-push_str.ensures.bytes ∙ ap (λ s. s ++ codes "{\"messages\":[") c.clear.ensures.bytes);
}

pub loop-delivery-preserved : goal.loop-delivery-preserved
loop-delivery-preserved c =
    let ds = c.args.deliveries.now in
    let i = c.loop-delivery.delivery-index in
    let d = c.delivery-item.result in
    let was = c.loop-delivery.invariant in
    let one = rw c.if-not-has_fit.false at c.in_ok-has_fit.ensures in
    let longer : take (i + 1) ds ≡ take i ds ++ d ∷ [] =
    take_more ds i d c.loop-delivery-test.true ∙ ap (λ (e : Delivery). take i ds ++ e ∷ []) (sym c.delivery-item.is) in
    record {
      first = rw longer (none_after_one (take i ds) d);
      shown = rw longer (one_shown (take i ds) d c.loop-delivery.is_first _ _ was.first was.shown one);
    }

pub returns-then-not-has_fit : goal.returns-then-not-has_fit
returns-then-not-has_fit c =
    let ds = c.args.deliveries.now in
    let i = c.loop-delivery.delivery-index in
    let d = c.delivery-item.result in
    let was = c.loop-delivery.invariant in
    let none = rw c.if-not-has_fit.true at c.in_ok-has_fit.ensures in
    let parts : take i ds ++ d ∷ drop (i + 1) ds ≡ ds =
    ap (λ (e : Delivery). take i ds ++ e ∷ drop (i + 1) ds) c.delivery-item.is
    ∙ (ap (λ (rest : List Delivery). take i ds ++ rest) (sym (drop_more ds i d c.loop-delivery-test.true)) ∙ take-append-drop i ds) in
    subst (λ (all : List Delivery). BeginsPeek all (string_bytes c.push_one.new.out)) parts
    (no_more_fit (take i ds) d (drop (i + 1) ds) c.loop-delivery.is_first _ _ was.first was.shown none)

pub returns : goal.returns
returns c =
    let ds = c.args.deliveries.now in
    let i = c.loop-delivery.delivery-index in
    let all : take i ds ≡ ds = take_all i ds (omega arith) in
    subst (λ (shown : List Delivery). BeginsPeek shown (string_bytes c.loop-delivery.out)) all
    (all_fit (take i ds) _ c.loop-delivery.invariant.shown)
