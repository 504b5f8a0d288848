use Rattle.std.proofs.Common.{◌≡◌, OnOk, subst}
use Rattle.std.proofs.lemmas.Result.{on_ok_weaker}
use Rattle.delivery_machine.specs.Places.{KeptPlaces}
use Rattle.row_forms.proofs.Acks.{SetsExtend, acks_change, acks_come, acks_go}
use Rattle.row_forms.proofs.ack_difference.add.Goals as goal

pub returns-in-Gone : goal.returns-in-Gone
returns-in-Gone c =
    let none = c.args.none.now in
    let gone = c.args.gone in
    let d = c.args.difference.now in
    let e = c.add_sets.new.difference in
    let r = c.add_sets.result in
    rw c.in-Gone.is
    (on_ok_weaker r (acks_go gone.was gone.now c.in-Gone.old.now none d e c.requires.none) (subst (λ (k : KeptPlaces). OnOk r (SetsExtend k.name gone.was gone.now k.acknowledged none d e)) c.old.view_is c.add_sets.ensures))

pub returns-in-New : goal.returns-in-New
returns-in-New c =
    let none = c.args.none.now in
    let gone = c.args.gone in
    let d = c.args.difference.now in
    let e = c.add_sets-in-New.new.difference in
    let r = c.add_sets-in-New.result in
    rw c.in-New.is
    (on_ok_weaker r (acks_come gone.was gone.now c.in-New.new.now none d e c.requires.none) (subst (λ (k : KeptPlaces). OnOk r (SetsExtend k.name gone.was gone.now none k.acknowledged d e)) c.new.view_is c.add_sets-in-New.ensures))

pub returns-in-Both : goal.returns-in-Both
returns-in-Both c =
    let old = c.in-Both.old.now in
    let new = c.in-Both.new.now in
    let gone = c.args.gone in
    let d = c.args.difference.now in
    let e = c.add_sets-in-Both.new.difference in
    let r = c.add_sets-in-Both.result in
    let names : old.name ≡ new.name = rw c.in-Both.is at c.requires.key in
    rw c.in-Both.is
    (on_ok_weaker r (acks_change gone.was gone.now old new d e names)
    (subst (λ (k : KeptPlaces). OnOk r (SetsExtend new.name gone.was gone.now k.acknowledged new.acknowledged d e)) c.old-in-Both.view_is
    (subst (λ (k : KeptPlaces). OnOk r (SetsExtend k.name gone.was gone.now c.old-in-Both.inside.acknowledged k.acknowledged d e)) c.new-in-Both.view_is c.add_sets-in-Both.ensures)))
