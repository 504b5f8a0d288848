use Rattle.row_store.proofs.Promising.{opened_are_told}
use Rattle.row_store.proofs.laws.opened_are_told.Goals as goal

pub returns : goal.returns
returns c = opened_are_told
