use Rattle.std.proofs.Common.{◌≡◌, ◌++◌, ◌∷◌, ◌-◌, [], List, Some, map, length, ap, sym, subst, ◌∙◌, rules}
use Rattle.std.specs.List.{slice_get}
use Rattle.std.specs.declared.cmp.Ordering.TheVariants.{Less}
use Rattle.position_core.specs.Name.{name_order}
use Rattle.delivery_machine.specs.Places.{KeptPlaces}
use Rattle.delivery_machine.specs.WellFormed.{NamesRise}
use Rattle.row_reading.proofs.Subs.{above_last, first_name, names_on, none_last}
use Rattle.row_reading.proofs.kept_subs.is_above.Goals as goal

pub returns-in-Some-clause-rise : goal.returns-in-Some-clause-rise
returns-in-Some-clause-rise c = λ holds.
    let last : KeptPlaces = c.in-Some.last.now in
    let at : slice_get c.args.subs.now (length c.args.subs.now - 1) ≡ Some last = sym c.in-Some.ensures.value in
    let name : c.last-in-Some.inside.name ≡ last.name = ap (λ (sub : KeptPlaces). sub.name) c.last-in-Some.view_is in
    let less : c.order.result ≡ Less = search rules in
    names_on c.args.subs.now last c.args.name.now c.requires at (ap (λ n. name_order n c.args.name.now) (sym name) ∙ sym c.order.ensures ∙ less)

pub returns-in-None-clause-rise : goal.returns-in-None-clause-rise
returns-in-None-clause-rise c = λ holds.
    let none : c.args.subs.now ≡ [] = none_last c.args.subs.now (sym c.in-None.ensures.value) in
    subst (λ (subs : List KeptPlaces). NamesRise (map (λ (sub : KeptPlaces). sub.name) subs ++ c.args.name.now ∷ [])) (sym none) (first_name c.args.name.now)

pub returns-in-Some-clause-all_rise : goal.returns-in-Some-clause-all_rise
returns-in-Some-clause-all_rise c = λ rise.
    let last : KeptPlaces = c.in-Some.last.now in
    let at : slice_get c.args.subs.now (length c.args.subs.now - 1) ≡ Some last = sym c.in-Some.ensures.value in
    let name : c.last-in-Some.inside.name ≡ last.name = ap (λ (sub : KeptPlaces). sub.name) c.last-in-Some.view_is in
    let below : name_order last.name c.args.name.now ≡ Less = above_last c.args.subs.now last c.args.name.now rise at in
    let less : c.order.result ≡ Less = c.order.ensures ∙ ap (λ n. name_order n c.args.name.now) name ∙ below in
    search (rules, less)
