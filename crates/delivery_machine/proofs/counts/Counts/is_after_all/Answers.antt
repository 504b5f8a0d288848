use Rattle.std.proofs.Common.{◌≤◌, List, length, ap, ◌∙◌, sym, subst}
use Rattle.std.specs.FinMap as map_of
use Rattle.std.specs.Ordering.{is_lt}
use Rattle.position_core.specs.Position.{position_cmp}
use Rattle.delivery_machine.specs.Counts.{IsAfterAll}
use Rattle.delivery_machine.specs.declared.counts.Counted.{Counted}
use Rattle.delivery_machine.proofs.CountsListed.{IsLastOf, told_after, told_last, after_none}
use Rattle.delivery_machine.proofs.counts.Counts.is_after_all.Goals as goal
use Rattle.delivery_machine.proofs.counts.Counts.is_after_all.Goals.{After-is_lt}

the_last : (c : After-is_lt) → IsLastOf c.self.inside.entries.items c.in-Some.last.now c.args.position c.is_lt.result
the_last c =
    let of_all : IsLastOf c.deref.result.now c.in-Some.last.now c.args.position c.is_lt.result =
    record { some = c.in-Some.ensures.item.3.0; is = c.in-Some.ensures.item.1; tells = c.is_lt.ensures ∙ ap is_lt c.cmp.ensures } in
    subst (λ (es : List Counted). IsLastOf es c.in-Some.last.now c.args.position c.is_lt.result) c.deref.ensures.value of_all

pub returns-in-Some-clause-yes : goal.returns-in-Some-clause-yes
returns-in-Some-clause-yes c t =
    subst (λ (m : map_of.FinMap position_cmp _). IsAfterAll m c.args.position) c.self.view_is
    (told_after c.self.inside.entries.items c.in-Some.last.now c.args.position c.is_lt.result c.self.invariant (the_last c) t)

pub returns-in-Some-clause-no : goal.returns-in-Some-clause-no
returns-in-Some-clause-no c after =
    told_last c.self.inside.entries.items c.in-Some.last.now c.args.position c.is_lt.result (the_last c)
    (subst (λ (m : map_of.FinMap position_cmp _). IsAfterAll m c.args.position) (sym c.self.view_is) after)

pub returns-in-None-clause-yes : goal.returns-in-None-clause-yes
returns-in-None-clause-yes c t =
    subst (λ (m : map_of.FinMap position_cmp _). IsAfterAll m c.args.position) c.self.view_is
    (after_none c.self.inside.entries.items c.args.position (subst (λ (es : List Counted). length es ≤ 0) c.deref.ensures.value c.in-None.ensures.item.3))
