use Rattle.position_core.specs.TopicName.{scheme}
use Rattle.value_texts.proofs.TopicNames.{strips_text}
use Rattle.value_texts.proofs.topic_name.after_scheme.Goals as goal

pub returns-clause-all_parted : goal.returns-clause-all_parted
returns-clause-all_parted c rest e = strips_text scheme c.args.text.now rest c.strip_prefix.result c.strip_prefix.ensures.cases e
