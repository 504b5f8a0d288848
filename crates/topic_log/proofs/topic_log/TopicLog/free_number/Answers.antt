use Rattle.std.proofs.Common.{◌≡◌, ℕ, List, Some, None, ap, ap₂, subst, sym, ◌∙◌}
use Rattle.std.specs.Prelude.{not}
use Rattle.std.specs.List.{filter, find}
use Rattle.delivery_machine.specs.State.{State, Producer}
use Rattle.delivery_machine.specs.Producing.{IsLeastFree}
use Rattle.dedup_core.specs.Sequences.{AgreesWith}
use Rattle.topic_log.specs.Names.{is_numbered, is_taken}
use Rattle.topic_log.specs.Written.{Written, all_of, written_in}
use Rattle.topic_log.proofs.Free.{kept_on, least_of_gaps, least_beyond}
use Rattle.topic_log.proofs.topic_log.TopicLog.free_number.Goals as goal

pub returns-in-Some-clause-free : goal.returns-in-Some-clause-free
returns-in-Some-clause-free c =
    let fields = c.self.inside in
    let w : Written = record { gone = fields.gone; authors = fields.authors.items; retention = fields.retention; log = fields.entries; numbers = fields.sequences; durable = fields.durable; producers = fields.producers.items; next_producer = fields.next_producer } in
    let agrees = subst (λ (v : Written). AgreesWith (all_of v) v.numbers) (sym c.self.view_is) c.requires in
    let left = c.in_ok-gaps.ensures ∙ ap (λ (gs : List ℕ). filter (λ g. not (is_numbered fields.sequences g)) gs) c.deref.ensures.value in
    let found : Some c.in-Some.number ≡ find (λ g. not (is_taken fields.producers.items fields.sequences g)) c.in_ok-gaps.gaps.items =
    sym c.in-Some.is ∙ c.in_ok-number.ensures ∙ ap₂ (λ (ps : List Producer) (gs : List ℕ). find (λ g. not (is_taken ps fields.sequences g)) gs) c.deref-2.ensures.value c.deref-3.ensures.value in
    subst (λ (v : Written). (s : State) → IsLeastFree (written_in v s) c.in-Some.number) c.self.view_is
    (least_of_gaps w agrees c.self.invariant.remembered fields.first_auto fields.gaps.items c.in_ok-gaps.gaps.items c.self.invariant.names left c.in-Some.number found)

pub invariant_of-self : goal.invariant_of-self
invariant_of-self c =
    let fields = c.self.inside in
    let w : Written = record { gone = fields.gone; authors = fields.authors.items; retention = fields.retention; log = fields.entries; numbers = fields.sequences; durable = fields.durable; producers = fields.producers.items; next_producer = fields.next_producer } in
    let agrees = subst (λ (v : Written). AgreesWith (all_of v) v.numbers) (sym c.self.view_is) c.requires in
    let left = c.in_ok-gaps.ensures ∙ ap (λ (gs : List ℕ). filter (λ g. not (is_numbered fields.sequences g)) gs) c.deref.ensures.value in
    kept_on w agrees c.self.invariant.remembered fields.first_auto fields.gaps.items c.in_ok-gaps.gaps.items c.self.invariant.names left c.in_ok-gaps-2.number fields.durable c.in_ok-gaps-2.gaps.items c.self.invariant.stored c.self.invariant.room c.in_ok-gaps-2.ensures.gaps

pub returns-clause-free : goal.returns-clause-free
returns-clause-free c =
    let fields = c.self.inside in
    let w : Written = record { gone = fields.gone; authors = fields.authors.items; retention = fields.retention; log = fields.entries; numbers = fields.sequences; durable = fields.durable; producers = fields.producers.items; next_producer = fields.next_producer } in
    let agrees = subst (λ (v : Written). AgreesWith (all_of v) v.numbers) (sym c.self.view_is) c.requires in
    let left = c.in_ok-gaps.ensures ∙ ap (λ (gs : List ℕ). filter (λ g. not (is_numbered fields.sequences g)) gs) c.deref.ensures.value in
    let none : None ≡ find (λ g. not (is_taken fields.producers.items fields.sequences g)) c.in_ok-gaps.gaps.items =
    sym c.in_default.is ∙ c.in_ok-number.ensures ∙ ap₂ (λ (ps : List Producer) (gs : List ℕ). find (λ g. not (is_taken ps fields.sequences g)) gs) c.deref-2.ensures.value c.deref-3.ensures.value in
    subst (λ (v : Written). (s : State) → IsLeastFree (written_in v s) c.in_ok-gaps-2.number) c.self.view_is
    (least_beyond w agrees c.self.invariant.remembered fields.first_auto fields.gaps.items c.in_ok-gaps.gaps.items c.self.invariant.names left c.in_ok-gaps-2.number none
    (ap (λ (ps : List Producer). is_taken ps fields.sequences c.in_ok-gaps-2.number) (sym c.deref-4.ensures.value) ∙ c.in_ok-gaps-2.ensures.free)
    (λ k from low. ap (λ (ps : List Producer). is_taken ps fields.sequences k) (sym c.deref-4.ensures.value) ∙ c.in_ok-gaps-2.ensures.taken k from low))
