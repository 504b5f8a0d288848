use Rattle.std.proofs.Common.{rules, not}
use Rattle.std.proofs.lemmas.Fn.{filter_same}
use Rattle.position_core.specs.TopicName.{same_topic}
use Rattle.broker_dir.proofs.table.Table.end_opening.Goals as goal

pub returns-clause-left : goal.returns-clause-left
returns-clause-left g c =
    filter_same _ (λ opening. not (same_topic opening.value.name c.args.name.now)) _ (λ x b f' k. search rules) _ _ c.retain.ensures.filtered
