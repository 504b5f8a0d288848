use Rattle.std.proofs.Common.{◌≡◌}
use Rattle.position_core.specs.TopicName.{topic_text}
use Rattle.broker_dir.proofs.Listed.{copied, named}
use Rattle.broker_dir.proofs.table.Table.find.Goals as goal

pub returns-clause-named : goal.returns-clause-named
returns-clause-named g c =
    copied (λ topic. topic_text topic.value.name ≡ c.args.name.now) c.get.result _ c.get.ensures.value
    (named (λ topic. topic.value.name) c.args.self.now.list.topics.entries c.args.name.now c.args.self.now.named)
