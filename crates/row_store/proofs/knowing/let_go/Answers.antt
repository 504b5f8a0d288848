use Rattle.std.proofs.Common.{◌≢◌, All, subst}
use Rattle.position_core.specs.TopicName.{topic_text}
use Rattle.position_core.specs.declared.topic_name.TopicName.{TopicName}
use Rattle.delivery_machine.specs.Places.{KeptTopic}
use Rattle.row_store.proofs.knowing.let_go.Goals as goal

pub returns-clause-others : goal.returns-clause-others
returns-clause-others g c =
    subst (λ (name : TopicName). All (λ (kept : KeptTopic). topic_text kept.name ≢ topic_text name) c.forget_topic.new.known.items) c.name.ensures c.forget_topic.ensures.others
