use Rattle.value_texts.proofs.TopicNames.{all_named}
use Rattle.value_texts.proofs.topic_name.read_topic_name.Goals as goal

pub returns-in-Some-clause-all_read : goal.returns-in-Some-clause-all_read
returns-in-Some-clause-all_read c = all_named c.args.text.now _ _ _ c.from_names.result c.from_names.ensures c.in-Some.ensures.all_parted

pub returns-in-None-clause-all_read : goal.returns-in-None-clause-all_read
returns-in-None-clause-all_read c name tenant namespace topic e = c.in-None.ensures.all_parted name.tenant name.namespace name.topic tenant namespace e
