use Rattle.row_store.proofs.Unfound.{what_rests_is_found}
use Rattle.row_store.proofs.laws.what_rests_is_found.Goals as goal

pub returns : goal.returns
returns c = what_rests_is_found
