use Rattle.std.proofs.Common.{ap, ◌∙◌}
use Rattle.position_core.specs.TopicName.{topic_text}
use Rattle.broker_dir.proofs.directory.Directory.topic_for.Goals as goal

pub returns-in-Ok-Seated-clause-at : goal.returns-in-Ok-Seated-clause-at
returns-in-Ok-Seated-clause-at g c =
    let at = rw c.in-Ok-Seated.field-0-is at c.in-Ok-Seated.ensures.at in
    ap (λ topic. topic_text topic.value.name) c.into_topic.ensures ∙ (at ∙ c.in-Ok.ensures)
