use Rattle.dead_letters.proofs.SafeStored.{safe_is_stored}
use Rattle.dead_letters.proofs.laws.safe_is_stored.Goals as goal

pub returns : goal.returns
returns c = safe_is_stored
