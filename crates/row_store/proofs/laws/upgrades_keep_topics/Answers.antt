use Rattle.row_store.proofs.Upgrading.{upgrades_keep}
use Rattle.row_store.proofs.laws.upgrades_keep_topics.Goals as goal

pub returns : goal.returns
returns c = upgrades_keep
