use Rattle.std.proofs.Common.{◌≡◌, ℕ, ◌+◌, ◌≤◌, false, drop, length, map, ap, sym, subst, ◌∙◌}
use Rattle.std.specs.Prelude.{nat_le}
use Rattle.std.specs.List.{list_any}
use Rattle.std.specs.Option.{option_map_or}
use Rattle.std.specs.FinMap as map_of
use Rattle.delivery_machine.specs.Words.{is_by, signed}
use Rattle.dedup_core.specs.Sequences.{AgreesWith}
use Rattle.dedup_core.specs.declared.table.LastNumber.{LastNumber}
use Rattle.topic_log.specs.Written.{Written, all_of}
use Rattle.topic_log.proofs.Forgetting.{stays_by}
use Rattle.topic_log.proofs.topic_log.TopicLog.stays.Goals as goal

pub returns : goal.returns
returns c =
    let i = c.self.inside in
    let name = c.args.name.now in
    let v : Written = record { gone = i.gone; authors = i.authors.items; retention = i.retention; log = i.entries; numbers = i.sequences; durable = i.durable; producers = i.producers.items; next_producer = i.next_producer } in
    let agrees : AgreesWith (all_of v) v.numbers = subst (λ (u : Written). AgreesWith (all_of u) u.numbers) (sym c.self.view_is) c.requires.agrees in
    let within : c.args.count ≤ length i.entries.log = subst (λ (u : Written). c.args.count ≤ length u.log.log) (sym c.self.view_is) c.requires.within in
    let least : c.number_at.result ≡ i.gone + c.args.count = c.number_at.ensures ∙ ap (λ (u : Written). u.gone + c.args.count) (sym c.self.view_is) in
    c.reaches.ensures
    ∙ ap (λ (k : ℕ). option_map_or (λ (n : LastNumber). nat_le k n.index) (map_of.get i.sequences name) false) least
    ∙ stays_by i.gone i.entries.log i.authors.items c.args.count within c.self.invariant.remembered i.sequences name agrees
    ∙ ap (λ (u : Written). list_any (is_by name) (map signed (drop c.args.count u.log.log))) c.self.view_is
