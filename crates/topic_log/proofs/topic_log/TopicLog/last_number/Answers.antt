use Rattle.std.proofs.Common.{rules, ap, sym, subst, ◌∙◌, w64}
use Rattle.std.specs.Prelude.{ℤ}
use Rattle.std.proofs.lemmas.Int.{to_z-of_z}
use Rattle.std.specs.Option.{option_map_or}
use Rattle.std.specs.FinMap as map_of
use Rattle.delivery_machine.specs.Words.{known, last_sequence}
use Rattle.dedup_core.specs.Sequences.{AgreesWith}
use Rattle.dedup_core.proofs.Known.{last_is_known}
use Rattle.topic_log.specs.Written.{Written, all_of, written_in}
use Rattle.topic_log.proofs.topic_log.TopicLog.last_number.Goals as goal

pub returns : goal.returns
returns c s =
    let i = c.self.inside in
    let v : Written = record { gone = i.gone; authors = i.authors.items; retention = i.retention; log = i.entries; numbers = i.sequences; durable = i.durable; producers = i.producers.items; next_producer = i.next_producer } in
    let agrees : AgreesWith (all_of v) v.numbers = subst (λ (u : Written). AgreesWith (all_of u) u.numbers) (sym c.self.view_is) c.requires in
    to_z-of_z w64 c.last.result (search rules)
    ∙ c.last.ensures
    ∙ ap (λ (base : ℤ). option_map_or (λ n. n.sequence) (map_of.get i.sequences c.args.name.now) base) (to_z-of_z w64 c.number.result (search rules) ∙ c.number.ensures.value)
    ∙ last_is_known (written_in v s) c.self.invariant.remembered i.sequences agrees c.args.name.now c.args.base
    ∙ ap (λ (u : Written). last_sequence (known (written_in u s)) c.args.name.now c.args.base) c.self.view_is
