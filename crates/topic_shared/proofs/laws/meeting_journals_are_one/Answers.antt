use Rattle.topic_shared.proofs.Legality.{legal_joined}
use Rattle.topic_shared.proofs.laws.meeting_journals_are_one.Goals as goal

pub returns : goal.returns
returns c s mid t before after = legal_joined s before mid after t
