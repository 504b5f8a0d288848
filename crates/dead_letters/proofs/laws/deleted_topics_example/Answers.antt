use Rattle.dead_letters.proofs.DeletedExample.{may_go_on}
use Rattle.dead_letters.proofs.laws.deleted_topics_example.Goals as goal

pub returns : goal.returns
returns c = may_go_on
