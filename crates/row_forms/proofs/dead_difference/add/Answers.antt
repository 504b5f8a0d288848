use Rattle.std.proofs.Common.{◌≡◌, List, [], OnOk, subst}
use Rattle.std.proofs.lemmas.Result.{on_ok_weaker}
use Rattle.delivery_machine.specs.Places.{KeptPlaces}
use Rattle.row_forms.specs.Places.{seen}
use Rattle.row_forms.specs.Forms.{Span}
use Rattle.row_forms.specs.Parts.{ExtendsByLetters}
use Rattle.row_forms.proofs.Deads.{deads_change, deads_come, deads_go}
use Rattle.row_forms.proofs.dead_difference.add.Goals as goal

pub returns-in-Gone : goal.returns-in-Gone
returns-in-Gone c =
    let was : Span = seen c.args.logs.was in
    let log : Span = seen c.args.logs.now in
    let d = c.args.difference.now in
    let e = c.add_letters.new.difference in
    let r = c.add_letters.result in
    let letters : OnOk r (ExtendsByLetters c.old.inside.name was log c.old.inside.dead.items [] d e) = rw c.deref.ensures.value at c.add_letters.ensures in
    rw c.in-Gone.is
    (on_ok_weaker r (deads_go was log c.in-Gone.old.now d e) (subst (λ (k : KeptPlaces). OnOk r (ExtendsByLetters k.name was log k.dead [] d e)) c.old.view_is letters))

pub returns-in-New : goal.returns-in-New
returns-in-New c =
    let was : Span = seen c.args.logs.was in
    let log : Span = seen c.args.logs.now in
    let d = c.args.difference.now in
    let e = c.add_letters-in-New.new.difference in
    let r = c.add_letters-in-New.result in
    let letters : OnOk r (ExtendsByLetters c.new.inside.name was log [] c.new.inside.dead.items d e) = rw c.deref-in-New.ensures.value at c.add_letters-in-New.ensures in
    rw c.in-New.is
    (on_ok_weaker r (deads_come was log c.in-New.new.now d e) (subst (λ (k : KeptPlaces). OnOk r (ExtendsByLetters k.name was log [] k.dead d e)) c.new.view_is letters))

pub returns-in-Both : goal.returns-in-Both
returns-in-Both c =
    let was : Span = seen c.args.logs.was in
    let log : Span = seen c.args.logs.now in
    let old = c.in-Both.old.now in
    let new = c.in-Both.new.now in
    let d = c.args.difference.now in
    let e = c.add_letters-in-Both.new.difference in
    let r = c.add_letters-in-Both.result in
    let names : old.name ≡ new.name = rw c.in-Both.is at c.requires.key in
    let letters : OnOk r (ExtendsByLetters c.new-in-Both.inside.name was log c.old-in-Both.inside.dead.items c.new-in-Both.inside.dead.items d e) =
    rw (c.deref-in-Both.ensures.value, c.deref-in-Both-2.ensures.value) at c.add_letters-in-Both.ensures in
    rw c.in-Both.is
    (on_ok_weaker r (deads_change was log old new d e names)
    (subst (λ (k : KeptPlaces). OnOk r (ExtendsByLetters new.name was log k.dead new.dead d e)) c.old-in-Both.view_is
    (subst (λ (k : KeptPlaces). OnOk r (ExtendsByLetters k.name was log c.old-in-Both.inside.dead.items k.dead d e)) c.new-in-Both.view_is letters)))
