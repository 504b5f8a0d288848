use Rattle.std.proofs.Common.{true, false, refl, ◌≡◌, ◌∙◌, ap, ap₂, w64, to_z, of_z, List, ℕ}
use Rattle.std.specs.Prelude.{ℤ}
use Rattle.std.proofs.lemmas.Int.{to_z-of_z}
use Rattle.position_core.specs.declared.position.Position.{Position}
use Rattle.delivery_machine.specs.State.{State}
use Rattle.entry_log.specs.Log.{next_in}
use Rattle.topic_log.proofs.Told.{as_told, told_twice, told_full, not_refused, made, next_made}
use Rattle.topic_log.proofs.topic_log.TopicLog.to_publish.Goals as goal

pub returns-then-is_full-clause-told : goal.returns-then-is_full-clause-told
returns-then-is_full-clause-told c s =
    let new = λ (t : State). as_told c.args.self.now t c.in-Some.sender.now c.args.sequence c.is_duplicate.result false c.ranges.sequence (c.is_duplicate.ensures t) c.if-is_duplicate.false in
    (told_full c.args.self.now c.args.producer c.args.sequence c.in-Some.sender.now c.in-Some.ensures new s c.if-is_full.ensures, refl)

pub returns-in-Ok-clause-message : goal.returns-in-Ok-clause-message
returns-in-Ok-clause-message c =
    let w = c.args.self.now in
    let p = c.in-Some.sender.now in
    let new = λ (t : State). as_told w t p c.args.sequence c.is_duplicate.result false c.ranges.sequence (c.is_duplicate.ensures t) c.if-is_duplicate.false in
    let is : c.in-Ok.message ≡ made w c.args.producer c.args.sequence p c.in-Some.ensures new c.args.body.now c.args.now =
    c.in-Ok.ensures
    ∙ ap₂ (λ (at : Position) (name : List ℕ). record { position = at; producer = name; sequence = to_z w64 (of_z w64 c.args.sequence); time = c.args.now; body = c.args.body.now }) c.next_position-position.ensures.value c.name.ensures
    ∙ ap (λ (n : ℤ). record { position = next_in w.log; producer = p.name; sequence = n; time = c.args.now; body = c.args.body.now }) (to_z-of_z w64 c.args.sequence c.ranges.sequence) in
    next_made w c.args.producer c.args.sequence p c.in-Some.ensures new c.args.body.now c.args.now c.in-Ok.message c.if-is_full.ensures is

pub returns-in-Err-clause-told : goal.returns-in-Err-clause-told
returns-in-Err-clause-told c s =
    let new = λ (t : State). as_told c.args.self.now t c.in-Some.sender.now c.args.sequence c.is_duplicate.result false c.ranges.sequence (c.is_duplicate.ensures t) c.if-is_duplicate.false in
    (refl, not_refused c.args.self.now c.args.producer c.args.sequence c.in-Some.sender.now c.in-Some.ensures new s c.if-is_full.ensures, refl)

pub returns-then-is_duplicate-clause-told : goal.returns-then-is_duplicate-clause-told
returns-then-is_duplicate-clause-told c s =
    let twice = λ (t : State). as_told c.args.self.now t c.in-Some.sender.now c.args.sequence c.is_duplicate.result true c.ranges.sequence (c.is_duplicate.ensures t) c.if-is_duplicate.true in
    told_twice c.args.self.now c.args.producer c.args.sequence c.in-Some.sender.now c.in-Some.ensures twice c.args.body.now c.args.now c.had.result c.had.ensures.value s
