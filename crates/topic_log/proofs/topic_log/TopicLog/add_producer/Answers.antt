use Rattle.std.proofs.Common.{◌≡◌, ℕ, rules, ap, ap₂, ◌∙◌, w64, None}
use Rattle.std.specs.Prelude.{ℤ}
use Rattle.std.proofs.lemmas.Int.{to_z-of_z}
use Rattle.delivery_machine.specs.Words.{known, last_sequence}
use Rattle.delivery_machine.specs.Refusals.{adding_refused}
use Rattle.delivery_machine.specs.Producing.{with_producer}
use Rattle.delivery_machine.specs.declared.reply.Reply.TheVariants.{ProducerAdded}
use Rattle.topic_log.specs.Written.{Written, written_in}
use Rattle.topic_log.proofs.topic_log.TopicLog.add_producer.Goals as goal

pub returns-clause-answers : goal.returns-clause-answers
returns-clause-answers c s =
    let w = c.args.self.now in
    let free : adding_refused (written_in w s) c.args.asked.now ≡ None = search rules in
    let next : c.self.inside.next_producer ≡ w.next_producer = ap (λ (v : Written). v.next_producer) (c.self.view_is ∙ c.in-Ok.ensures.same) in
    let last = to_z-of_z w64 c.last_number-last.result (search rules) ∙ c.last_number-last.ensures s ∙ ap (λ (v : Written). last_sequence (known (written_in v s)) c.in-Ok.name c.args.base) c.in-Ok.ensures.same in
    let with_it : written_in c.connect.new.self s ≡ with_producer (written_in w s) (record { number = w.next_producer; name = c.in-Ok.name; base = c.args.base }) = search rules in
    (free, (c.in-Ok.name, c.in-Ok.auto, c.in-Ok.ensures.given s, (ap₂ (λ (p : ℕ) (n : ℤ). ProducerAdded p c.in-Ok.auto n) next last, with_it)))
