use Rattle.dead_letters.proofs.SafeByStores.{only_stores_make_safe}
use Rattle.dead_letters.proofs.laws.only_stores_make_safe.Goals as goal

pub returns : goal.returns
returns c = only_stores_make_safe
