use Rattle.sqlite.specs.Held.{state}
use Rattle.row_store.specs.Keeping.{kepts}
use Rattle.row_store.proofs.Storing.{left_from}
use Rattle.row_store.proofs.keeper.Keeper.store.Goals as goal

pub returns-clause-left : goal.returns-clause-left
returns-clause-left g c = λ working shown clean db left.
    left_from (state g.S.Store c.args.self.now.conn) (state g.S.Store c.write.new.self.conn) (kepts c.args.parts.items) (λ early. c.rests.ensures.settled working early shown) c.write.ensures.crash shown clean db left
