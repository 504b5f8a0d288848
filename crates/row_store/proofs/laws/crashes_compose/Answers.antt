use Rattle.row_store.proofs.Living.{crashes_compose}
use Rattle.row_store.proofs.laws.crashes_compose.Goals as goal

pub returns : goal.returns
returns c = crashes_compose
