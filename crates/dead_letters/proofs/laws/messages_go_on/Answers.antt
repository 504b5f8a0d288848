use Rattle.dead_letters.proofs.Topics.{messages_go_on}
use Rattle.dead_letters.proofs.laws.messages_go_on.Goals as goal

pub returns : goal.returns
returns c = messages_go_on
