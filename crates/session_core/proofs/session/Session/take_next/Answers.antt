use Rattle.std.proofs.Common.{refl, sym, inl, inr}
use Rattle.session_core.specs.declared.session.Session.{Session}
use Rattle.session_core.specs.Steps.{Stays}
use Rattle.session_core.proofs.Taking.{is_roomy, next_text, stays_full}
use Rattle.session_core.proofs.session.Session.take_next.Goals as goal

pub returns-then-is_full : goal.returns-then-is_full
returns-then-is_full g c = stays_full c.args.self.now c.args.now _ _ (sym c.if-is_full.ensures) _ c.requires

pub returns-then-is_err : goal.returns-then-is_err
returns-then-is_err g c =
    let room : Session = record c.args.self.now { waiting = c.reserve.new.self } in
    let stays : Stays c.args.self.now room = record { keeps = record { party = refl; durable = refl; copies = refl; copies_sent = refl }; next = refl; waiting = c.reserve.ensures.items } in
    inr (inr (stays, refl, c.wants_memory.ensures, c.requires, refl))

pub returns-in-Ok-Nothing : goal.returns-in-Ok-Nothing
returns-in-Ok-Nothing g c =
    let room : Session = record c.args.self.now { waiting = c.reserve.new.self } in
    let stays : Stays c.args.self.now room = record { keeps = record { party = refl; durable = refl; copies = refl; copies_sent = refl }; next = refl; waiting = c.reserve.ensures.items } in
    let came = rw c.in-Ok-Nothing.field-0-is at c.in-Ok-Nothing.ensures in
    (stays, refl, came.open, inl (came.ok, is_roomy c.args.self.now (sym c.if-is_full.ensures)))

pub returns-in-Ok-Gone : goal.returns-in-Ok-Gone
returns-in-Ok-Gone g c =
    let room : Session = record c.args.self.now { waiting = c.reserve.new.self } in
    let stays : Stays c.args.self.now room = record { keeps = record { party = refl; durable = refl; copies = refl; copies_sent = refl }; next = refl; waiting = c.reserve.ensures.items } in
    let came = rw c.in-Ok-Gone.field-0-is at c.in-Ok-Gone.ensures in
    inr (inl (stays, refl, refl, came.open, inl (came.ok, is_roomy c.args.self.now (sym c.if-is_full.ensures))))

pub returns-in-Ok-Text : goal.returns-in-Ok-Text
returns-in-Ok-Text g c =
    let room : Session = record c.args.self.now { waiting = c.reserve.new.self } in
    let stays : Stays c.args.self.now room = record { keeps = record { party = refl; durable = refl; copies = refl; copies_sent = refl }; next = refl; waiting = c.reserve.ensures.items } in
    let came = rw c.in-Ok-Text.field-0-is at c.in-Ok-Text.ensures in
    let ok = rw c.as_slice.ensures.value at c.take_came.ensures.ok in
    let err = rw c.as_slice.ensures.value at c.take_came.ensures.err in
    next_text c.args.self.now room _ _ _ _ _ _ c.take_came.result _ c.in-Ok-Text.text.items stays ok err came.ok came.open (is_roomy c.args.self.now (sym c.if-is_full.ensures))
