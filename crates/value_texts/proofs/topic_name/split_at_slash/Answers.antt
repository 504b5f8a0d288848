use Rattle.value_texts.proofs.TopicNames.{splits_after_name}
use Rattle.value_texts.proofs.topic_name.split_at_slash.Goals as goal

pub returns-clause-all_parted : goal.returns-clause-all_parted
returns-clause-all_parted c name rest n e = splits_after_name c.args.text.now name rest c.split_once.result c.split_once.ensures.cases n e
