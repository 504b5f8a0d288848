use Rattle.row_store.proofs.Promising.{ok_is_stored}
use Rattle.row_store.proofs.laws.ok_is_stored.Goals as goal

pub returns : goal.returns
returns c = ok_is_stored
