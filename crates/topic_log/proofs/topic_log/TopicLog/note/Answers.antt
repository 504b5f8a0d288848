use Rattle.std.proofs.Common.{◌≡◌, ℕ, ◌+◌, ◌-◌, ap, ap₂, sym, ◌∙◌, length, w64}
use Rattle.std.specs.Prelude.{ℤ}
use Rattle.std.proofs.lemmas.Int.{to_z-of_z}
use Rattle.dedup_core.specs.Sequences.{Numbers, offered}
use Rattle.topic_log.specs.Written.{Written}
use Rattle.topic_log.proofs.Writers.{noted}
use Rattle.topic_log.proofs.topic_log.TopicLog.note.Goals as goal

pub returns-clause-ok : goal.returns-clause-ok
returns-clause-ok c =
    let w = c.args.self.now in
    let name = c.args.name.now in
    let at : c.saturating_sub-index.result ≡ w.gone + length w.log.log - 1 = c.saturating_sub-index.ensures ∙ ap (λ (n : ℕ). n - 1) c.had.ensures.value in
    ap (λ (u : Written). record u { numbers = c.offer.new.self }) c.self.view_is
    ∙ ap (λ (m : Numbers). record w { numbers = m })
    (c.in_ok-offer.ensures.ok
    ∙ ap (λ (n : ℤ). offered name n c.saturating_sub-index.result c.self.inside.sequences) (to_z-of_z w64 c.args.sequence c.ranges.sequence)
    ∙ ap₂ (λ (k : ℕ) (m : Numbers). offered name c.args.sequence k m) at (ap (λ (u : Written). u.numbers) c.self.view_is))

pub returns-clause-agrees : goal.returns-clause-agrees
returns-clause-agrees c w e is agrees by numbered =
    let i = c.self.inside in
    let v : Written = record { gone = i.gone; authors = i.authors.items; retention = i.retention; log = i.entries; numbers = i.sequences; durable = i.durable; producers = i.producers.items; next_producer = i.next_producer } in
    let same = to_z-of_z w64 c.args.sequence c.ranges.sequence in
    let at : c.saturating_sub-index.result ≡ v.gone + length v.log.log - 1 =
    c.saturating_sub-index.ensures ∙ ap (λ (n : ℕ). n - 1) (c.had.ensures.value ∙ ap (λ (u : Written). u.gone + length u.log.log) (sym c.self.view_is)) in
    noted v w e c.args.name.now c.args.sequence c.saturating_sub-index.result c.offer.new.self (c.self.view_is ∙ is) c.self.invariant.remembered at
    (λ authors before m are agree named same_number. c.in_ok-offer.ensures.agrees authors before m are agree named (same_number ∙ sym same))
    agrees by numbered
