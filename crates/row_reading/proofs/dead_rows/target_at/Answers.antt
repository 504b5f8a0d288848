use Rattle.std.proofs.Common.{◌≡◌, ap, false, not, sym, true, ◌∙◌}
use Rattle.position_core.specs.declared.topic_name.TopicName.{TopicName}
use Rattle.position_core.specs.TopicName.{same_topic, topic_text}
use Rattle.value_texts.proofs.TopicNames.{one_topic}
use Rattle.row_reading.proofs.dead_rows.target_at.Goals as goal

pub returns-else-is_other-clause-all_read : goal.returns-else-is_other-clause-all_read
returns-else-is_other-clause-all_read c =
    λ name names other _ at.
    let found : TopicName = c.in-Some-2.name in
    let read : c.in-Some.text.now ≡ topic_text found = rw c.in-Some-2.is at c.in_ok-name.ensures.read in
    let shown = c.in-Some.ensures.shown in
    let texts : topic_text name ≡ topic_text found = cc in
    let same : name ≡ found = one_topic name found names.tenant names.namespace c.is_other.ensures.named.tenant c.is_other.ensures.named.namespace texts in
    let says : not (same_topic found c.args.own.now) ≡ false = sym c.is_other.ensures.other ∙ c.if-is_other.false in
    let is : not (same_topic found c.args.own.now) ≡ true = ap not (ap (λ t. same_topic t c.args.own.now) (sym same) ∙ other) in
    absurd (cc)
